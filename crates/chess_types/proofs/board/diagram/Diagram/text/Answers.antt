use Rattle.std.proofs.Common.{ℕ, List, [], length, ap, arith}
use Rattle.chess_types.specs.board.Board.{man_at}
use Rattle.chess_types.specs.board.Diagram.{line_text, diagram}
use Rattle.chess_types.proofs.EightLemmas.{begun, one_more}
use Rattle.chess_types.proofs.board.diagram.Diagram.text.Goals as goal

pub loop-line-init : goal.loop-line-init
unfolding diagram
loop-line-init c =
    let seen = man_at c.args.self.now.placement.now in
    let side = c.args.self.now.side in
    record {
      bytes = begun 10 (line_text seen side) [] c.push_line.new.text.bytes (rw c.new-text.ensures at c.push_line.ensures.bytes);
      len = omega (arith, c.push_line.ensures.len, ap (λ (text : List ℕ). length text) c.new-text.ensures);
    }

pub loop-line-preserved : goal.loop-line-preserved
loop-line-preserved c =
    let seen = man_at c.args.self.now.placement.now in
    let side = c.args.self.now.side in
    record {
      bytes = one_more 10 (line_text seen side) c.loop-line.line (diagram seen side) c.loop-line.text.bytes c.push_str.new.self.bytes c.push_line-in-loop-line.new.text.bytes
          (omega arith) c.loop-line.invariant.bytes c.push_str.ensures.bytes c.push_line-in-loop-line.ensures.bytes;
      len = omega (arith, c.push_str.ensures.len, c.push_line-in-loop-line.ensures.len);
    }
