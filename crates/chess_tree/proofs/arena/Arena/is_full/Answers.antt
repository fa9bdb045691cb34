use Rattle.std.proofs.Common.{◌≡◌, ◌≢◌, ◌==◌, ℕ, ap, ◌∙◌, arith}
use Rattle.std.proofs.lemmas.Bool.Decides.{nat_tests}
use Rattle.chess_tree.proofs.ArenaCalls.{few_held, full_is, not_full}
use Rattle.chess_tree.proofs.arena.Arena.is_full.Goals as goal

pub returns-then-eq-clause-full : goal.returns-then-eq-clause-full
returns-then-eq-clause-full g c =
    let test = c.eq.ensures in
    let root = c.root.ensures in
    let none : c.self.inside.free ≡ 0 = grind (arith, nat_tests) in
    full_is _ _ _ _ _ _ _ c.self.invariant c.self.view_is _ c.len.ensures.length none

pub returns-then-eq-clause-few : goal.returns-then-eq-clause-few
returns-then-eq-clause-few g c = few_held _ _ _ _ _ _ _ c.self.invariant c.self.view_is

pub returns-else-eq-clause-full : goal.returns-else-eq-clause-full
returns-else-eq-clause-full g c =
    let test = c.eq.ensures in
    let root = c.root.ensures in
    let some : c.self.inside.free ≢ 0 = grind (arith, nat_tests) in
    let is : c.eq.result ≡ (c.self.inside.free == 0) = c.eq.ensures ∙ ap (λ (x : ℕ). c.self.inside.free == x) c.root.ensures in
    is ∙ not_full _ _ _ _ _ _ _ c.self.invariant c.self.view_is some

pub returns-else-eq-clause-few : goal.returns-else-eq-clause-few
returns-else-eq-clause-few g c = few_held _ _ _ _ _ _ _ c.self.invariant c.self.view_is
