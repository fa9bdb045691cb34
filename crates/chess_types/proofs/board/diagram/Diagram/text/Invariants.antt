use Rattle.std.proofs.Common.{◌≡◌, ◌+◌, ◌-◌, ◌*◌, ◌++◌}
use Rattle.arrayvec.specs.ArrayString.{array_string_len}
use Rattle.chess_types.specs.board.Board.{man_at}
use Rattle.chess_types.specs.board.Diagram.{line_text, diagram}
use Rattle.chess_types.proofs.EightLemmas.{ahead}
use Rattle.chess_types.proofs.board.diagram.Diagram.text.Given as goal

abbrev pub invariant-loop-line : goal.invariant-loop-line
invariant-loop-line l = record {
  bytes : l.text.bytes ++ ahead 10 (line_text (man_at l.placement) l.side) l.line (8 - l.line) ≡ diagram (man_at l.placement) l.side;
  len : array_string_len l.text + 1 ≡ 16 * l.line;
}
