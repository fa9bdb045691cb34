use Rattle.std.proofs.Common.{inr, [], length, refl, arith}
use Rattle.std.specs.Prelude.{codes}
use Rattle.chess_repair.proofs.RewriteLemmas.{fits, one_more_so, split_so}
use Rattle.chess_repair.proofs.pen.Pen.pass_over.Goals as goal

pub is_prose-requires : goal.is_prose-requires
is_prose-requires g c = split_so c.self.inside.rest.now c.split_at.result.0.now c.split_at.result.1.now c.min.result c.split_at.ensures.front c.split_at.ensures.back

pub overflow_sub-repair : goal.overflow_sub-repair
overflow_sub-repair g c = fits (length c.self.inside.text.now) c.self.inside.text.now c.self.inside.repairs.items c.self.inside.out.items c.self.inside.rest.now c.self.invariant

pub invariant_of-self-2 : goal.invariant_of-self-2
invariant_of-self-2 g c =
    let within = fits (length c.self.inside.text.now) c.self.inside.text.now c.self.inside.repairs.items c.self.inside.out.items c.self.inside.rest.now c.self.invariant in
    one_more_so (length c.self.inside.text.now) c.self.inside.text.now c.self.inside.repairs.items c.put.new.repairs.items c.self.inside.out.items c.put.new.out.items c.self.inside.rest.now c.split_at.result.0.now c.split_at.result.1.now
    [] (codes "  ") _ c.self.invariant (split_so c.self.inside.rest.now c.split_at.result.0.now c.split_at.result.1.now c.min.result c.split_at.ensures.front c.split_at.ensures.back)
    (inr (refl, c.is_prose.ensures c.if-not-is_prose.false)) (omega (arith, within)) refl refl refl c.in_ok-put.ensures.repairs c.in_ok-put.ensures.text
