use Rattle.std.proofs.Common.{sym, ◌∙◌, arith}
use Rattle.std.proofs.lemmas.Bool.Decides.{nat_tests}
use Rattle.chess_tree.proofs.ArenaCalls.{here_range, no_step, step_room, stepped}
use Rattle.chess_tree.proofs.arena.Arena.down.Goals as goal

pub child-requires : goal.child-requires
child-requires g c = here_range _ _ _ _ _ _ _ c.self.invariant c.self.view_is

pub returns-in_default-clause-there : goal.returns-in_default-clause-there
returns-in_default-clause-there g c =
    let none = no_step _ _ _ _ _ _ _ c.self.invariant c.self.view_is c.args.place (sym c.in_default.is ∙ c.child.ensures) in
    grind (arith, nat_tests)

pub unreachable-requires : goal.unreachable-requires
unreachable-requires g c =
    omega (arith, step_room _ _ _ _ _ _ _ c.self.invariant c.self.view_is c.args.place c.in-Some.child (sym c.in-Some.is ∙ c.child.ensures), c.in_default-push.ensures.full, c.self.inside.trail.ok.0)

pub invariant_of-self : goal.invariant_of-self
invariant_of-self g c = (stepped _ _ _ _ _ _ _ c.self.invariant c.self.view_is c.args.place c.in-Some.child _ _ (sym c.in-Some.is ∙ c.child.ensures) c.in-Ok.ensures.items c.in-Ok.ensures.capacity).0

pub returns-clause-there : goal.returns-clause-there
returns-clause-there g c =
    let there = (stepped _ _ _ _ _ _ _ c.self.invariant c.self.view_is c.args.place c.in-Some.child _ _ (sym c.in-Some.is ∙ c.child.ensures) c.in-Ok.ensures.items c.in-Ok.ensures.capacity).2 in
    grind (arith, nat_tests)

pub returns-clause-path : goal.returns-clause-path
returns-clause-path g c = λ _. (stepped _ _ _ _ _ _ _ c.self.invariant c.self.view_is c.args.place c.in-Some.child _ _ (sym c.in-Some.is ∙ c.child.ensures) c.in-Ok.ensures.items c.in-Ok.ensures.capacity).1
