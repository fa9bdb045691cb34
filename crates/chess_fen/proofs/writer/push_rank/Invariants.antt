use Rattle.std.proofs.Common.{◌≡◌, ◌+◌, ◌≤◌, ◌++◌, drop}
use Rattle.arrayvec.specs.ArrayString.{array_string_len}
use Rattle.chess_fen.specs.Writing.{cells_text}
use Rattle.chess_fen.proofs.writer.push_rank.Given as goal

abbrev pub invariant-loop-cell : goal.invariant-loop-cell
invariant-loop-cell l = record {
  bytes : l.text.bytes ++ cells_text l.run (drop l.cell-index l.cells) ≡ l.initial.text.bytes ++ cells_text 0 l.cells;
  len : array_string_len l.text + l.run ≤ array_string_len l.initial.text + l.cell-index;
  run : l.run ≤ l.cell-index;
}
