use Rattle.std.proofs.Common.{◌≡◌, ◌+◌, ◌-◌, ◌*◌, ◌++◌, [], ◌∷◌}
use Rattle.arrayvec.specs.ArrayString.{array_string_len}
use Rattle.chess_types.specs.board.Board.{man_at}
use Rattle.chess_types.specs.board.Diagram.{shown, seen_at, line_text}
use Rattle.chess_types.proofs.EightLemmas.{ahead}
use Rattle.chess_types.proofs.board.diagram.push_line.Given as goal

abbrev pub invariant-loop-column : goal.invariant-loop-column
invariant-loop-column l = record {
  bytes : l.text.bytes ++ ahead 32 (λ column. shown (man_at l.placement (seen_at l.fn.side l.fn.line column)) ∷ []) l.column (8 - l.column) ≡
      l.fn.text.bytes ++ line_text (man_at l.placement) l.fn.side l.fn.line;
  len : array_string_len l.text + 1 ≡ array_string_len l.fn.text + 2 * l.column;
}
