use Rattle.std.proofs.Common.{rules, inl, length, refl, arith}
use Rattle.chess_repair.proofs.RewriteLemmas.{fits, one_more_so}
use Rattle.chess_repair.proofs.pen.Pen.mend.Goals as goal

pub overflow_sub-repair : goal.overflow_sub-repair
overflow_sub-repair g c = fits (length c.self.inside.text.now) c.self.inside.text.now c.self.inside.repairs.items c.self.inside.out.items c.self.inside.rest.now c.self.invariant

pub invariant_of-self-2 : goal.invariant_of-self-2
invariant_of-self-2 g c =
    let within = fits (length c.self.inside.text.now) c.self.inside.text.now c.self.inside.repairs.items c.self.inside.out.items c.self.inside.rest.now c.self.invariant in
    one_more_so (length c.self.inside.text.now) c.self.inside.text.now c.self.inside.repairs.items c.put.new.repairs.items c.self.inside.out.items c.put.new.out.items c.self.inside.rest.now c.args.was.now c.in-Some.rest.now
    c.args.now.now c.in_ok-text.text.items _ c.self.invariant c.in-Some.ensures (inl c.requires) (omega (arith, within)) refl c.in_ok-text.ensures (search rules) c.in_ok-put.ensures.repairs (search rules)
