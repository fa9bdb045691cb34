use Rattle.std.proofs.Common.{◌≡◌, ◌+◌, ◌*◌, ◌≤◌, ◌++◌}
use Rattle.arrayvec.specs.ArrayString.{array_string_len}
use Rattle.chess_types.specs.board.Board.{man_at}
use Rattle.chess_types.specs.board.Cells.{board_of}
use Rattle.chess_fen.specs.Writing.{rank_text, placement_text}
use Rattle.chess_fen.proofs.WriteLemmas.{below}
use Rattle.chess_fen.proofs.writer.placement_text.Given as goal

abbrev pub invariant-loop-rank : goal.invariant-loop-rank
invariant-loop-rank l = record {
  bytes : l.text.bytes ++ below (rank_text (man_at (board_of l.cells))) l.rank ≡ placement_text (man_at (board_of l.cells));
  len : array_string_len l.text + 9 * l.rank ≤ 71;
}
