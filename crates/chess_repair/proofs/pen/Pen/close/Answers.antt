use Rattle.std.proofs.Common.{◌∙◌, inr, [], ◌∷◌, length, refl, sym}
use Rattle.std.proofs.Math.Nat.{sub-add_cancel}
use Rattle.std.specs.Prelude.{codes}
use Rattle.chess_repair.proofs.RewriteLemmas.{fits, one_more_so, split_so}
use Rattle.chess_repair.proofs.pen.Pen.close.Goals as goal

pub overflow_sub-repair : goal.overflow_sub-repair
overflow_sub-repair g c = fits (length c.self.inside.text.now) c.self.inside.text.now c.self.inside.repairs.items c.self.inside.out.items c.self.inside.rest.now c.self.invariant

pub loop-init : goal.loop-init
loop-init g c = record {
  rewrites = c.self.invariant;
  same = c.self.view_is;
  closes = (
    c.split_at.result.0.now,
    c.split_at.result.1.now,
    split_so c.self.inside.rest.now c.split_at.result.0.now c.split_at.result.1.now c.min.result c.split_at.ensures.front c.split_at.ensures.back,
    sym c.is_result.ensures ∙ c.if-not-is_result.false,
    sym c.ends_game.ensures ∙ c.if-not-ends_game.false,
  );
  placed = sub-add_cancel (fits (length c.self.inside.text.now) c.self.inside.text.now c.self.inside.repairs.items c.self.inside.out.items c.self.inside.rest.now c.self.invariant);
}

pub loop-preserved : goal.loop-preserved
loop-preserved g c = record {
  rewrites =
      one_more_so (length c.loop.self-inside.text.now) c.loop.self-inside.text.now c.loop.self-inside.repairs.items c.put.new.repairs.items c.loop.self-inside.out.items c.put.new.out.items c.loop.self-inside.rest.now [] c.loop.self-inside.rest.now
      (10 ∷ codes ")") (32 ∷ 10 ∷ codes ") ") _ c.loop.invariant.rewrites refl (inr (refl, refl, c.loop.invariant.closes)) c.loop.invariant.placed refl refl refl c.in_ok-put.ensures.repairs c.in_ok-put.ensures.text;
  same = c.loop.invariant.same;
  closes = c.loop.invariant.closes;
  placed = c.loop.invariant.placed;
}
