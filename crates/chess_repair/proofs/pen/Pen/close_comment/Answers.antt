use Rattle.std.proofs.Common.{◌∙◌, inr, [], length, refl, sym, arith}
use Rattle.std.specs.Prelude.{codes}
use Rattle.chess_repair.proofs.RewriteLemmas.{fits, one_more_so}
use Rattle.chess_repair.proofs.pen.Pen.close_comment.Goals as goal

pub overflow_sub-repair : goal.overflow_sub-repair
overflow_sub-repair g c = fits (length c.self.inside.text.now) c.self.inside.text.now c.self.inside.repairs.items c.self.inside.out.items c.self.inside.rest.now c.self.invariant

pub invariant_of-self-2 : goal.invariant_of-self-2
invariant_of-self-2 g c =
    let within = fits (length c.self.inside.text.now) c.self.inside.text.now c.self.inside.repairs.items c.self.inside.out.items c.self.inside.rest.now c.self.invariant in
    one_more_so (length c.self.inside.text.now) c.self.inside.text.now c.self.inside.repairs.items c.put.new.repairs.items c.self.inside.out.items c.put.new.out.items c.self.inside.rest.now [] c.self.inside.rest.now
    (codes "}") (codes " } ") _ c.self.invariant refl (inr (refl, refl, sym c.ends_comment.ensures ∙ c.if-not-ends_comment.false)) (omega (arith, within)) refl refl refl c.in_ok-put.ensures.repairs c.in_ok-put.ensures.text
