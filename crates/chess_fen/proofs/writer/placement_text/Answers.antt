use Rattle.std.proofs.Common.{ℕ, List, length, ap, refl, arith}
use Rattle.chess_fen.proofs.WriteLemmas.{begun, one_more, off_board}
use Rattle.chess_fen.proofs.writer.placement_text.Goals as goal

pub loop-rank-init : goal.loop-rank-init
loop-rank-init c = record {
  bytes = begun c.args.cells.now c.requires c.new-text.result.bytes c.push_rank.new.text.bytes c.new-text.ensures c.push_rank.ensures.bytes;
  len = omega (arith, c.push_rank.ensures.len, ap (λ (text : List ℕ). length text) c.new-text.ensures);
}

pub loop-rank-preserved : goal.loop-rank-preserved
loop-rank-preserved c = record {
  bytes = one_more c.args.cells.now c.requires c.loop-rank.rank _ _ c.loop-rank.text.bytes c.push_str.new.self.bytes c.push_rank-in-loop-rank.new.text.bytes (omega arith) (omega arith) refl (omega arith)
      c.loop-rank.invariant.bytes c.push_str.ensures.bytes c.push_rank-in-loop-rank.ensures.bytes;
  len = omega (arith, c.push_str.ensures.len, c.push_rank-in-loop-rank.ensures.len);
}

pub returns-clause-on_board : goal.returns-clause-on_board
returns-clause-on_board c = off_board c.args.cells.now c.requires
