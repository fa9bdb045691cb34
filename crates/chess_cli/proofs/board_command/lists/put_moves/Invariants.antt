use Rattle.std.proofs.Common.{◌≡◌, ◌+◌, ◌*◌, ◌≤◌, ◌++◌, map, take, length}
use Rattle.std.specs.Prelude.{codes}
use Rattle.arrayvec.specs.ArrayString.{array_string_len}
use Rattle.chess_types.specs.board.Texts.{move_text}
use Rattle.chess_cli.specs.Gaps.{separated_by}
use Rattle.chess_cli.proofs.board_command.lists.put_moves.Given as goal

abbrev pub invariant-loop-m : goal.invariant-loop-m
invariant-loop-m g l = record {
  bytes : l.page ++ l.text.bytes ≡ l.fn.page ++ separated_by (codes " ") (map move_text (take 1 l.moves ++ take l.m-index l.others));
  len : length l.page + array_string_len l.text ≤ length l.fn.page + 6 * (1 + l.m-index);
}
