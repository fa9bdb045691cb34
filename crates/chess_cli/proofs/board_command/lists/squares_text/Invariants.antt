use Rattle.std.proofs.Common.{◌+◌, ◌*◌, ◌≤◌, filter, length}
use Rattle.std.specs.FinSet.{contains}
use Rattle.arrayvec.specs.ArrayString.{array_string_len}
use Rattle.chess_types.specs.board.Squares.{squares}
use Rattle.chess_cli.proofs.ListLemmas.{Written}
use Rattle.chess_cli.proofs.board_command.lists.squares_text.Given as goal

abbrev pub invariant-loop-square : goal.invariant-loop-square
invariant-loop-square l = record {
  can : (goal.iterator-loop-square).can_next l.square-iterator;
  finite : (goal.iterator-loop-square).is_finite l.square-iterator;
  written : Written l.text.bytes (filter (contains l.set) squares) l.square-iterator;
  len : array_string_len l.text + 3 * length l.square-iterator ≤ 192;
}
