use Rattle.std.proofs.Common.{ℕ, [], ◌∷◌, ◌++◌, arith}
use Rattle.chess_types.specs.board.Board.{man_at}
use Rattle.chess_types.specs.board.Diagram.{shown, seen_at, line_text}
use Rattle.chess_types.proofs.EightLemmas.{begun, one_more}
use Rattle.chess_types.proofs.board.diagram.push_line.Goals as goal

pub loop-column-init : goal.loop-column-init
unfolding line_text
loop-column-init c =
    let letter = λ (column : ℕ). shown (man_at c.args.placement.now (seen_at c.args.side c.args.line column)) ∷ [] in
    record {
      bytes = begun 32 letter c.args.text.now.bytes c.push_letter.new.text.bytes c.push_letter.ensures.bytes;
      len = omega (arith, c.push_letter.ensures.len);
    }

pub loop-column-preserved : goal.loop-column-preserved
loop-column-preserved c =
    let letter = λ (column : ℕ). shown (man_at c.args.placement.now (seen_at c.args.side c.args.line column)) ∷ [] in
    record {
      bytes = one_more 32 letter c.loop-column.column (c.args.text.now.bytes ++ line_text (man_at c.args.placement.now) c.args.side c.args.line) c.loop-column.text.bytes
          c.push_str.new.self.bytes c.push_letter-in-loop-column.new.text.bytes
          (omega arith) c.loop-column.invariant.bytes c.push_str.ensures.bytes c.push_letter-in-loop-column.ensures.bytes;
      len = omega (arith, c.push_str.ensures.len, c.push_letter-in-loop-column.ensures.len);
    }
