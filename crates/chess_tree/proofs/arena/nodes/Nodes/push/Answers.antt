use Rattle.std.proofs.Common.{rules, ◌≡◌, List, [], ◌∷◌, ◌++◌, ◌≤◌, length, arith, sym, subst, ap}
use Rattle.chess_tree.specs.declared.arena.slot.Slot.{Slot}
use Rattle.chess_tree.specs.steps.Slots.{IsKept}
use Rattle.chess_tree.proofs.SlotLemmas.{kept_push, length_is}
use Rattle.chess_tree.proofs.arena.nodes.Nodes.push.Goals as goal

pub invariant_of-self-2 : goal.invariant_of-self-2
invariant_of-self-2 g c =
    let slots : c.push.new.self.items ≡ c.self.inside.slots.items ++ c.leaf.result ∷ [] = search rules in
    let few : length c.self.inside.slots.items ≤ 1000000 = omega (arith, c.requires, ap length c.self.view_is, length_is c.self.inside.lists.items c.self.inside.slots.items) in
    subst (λ (x : List Slot). IsKept x c.self.inside.lists.items) (sym slots)
    (kept_push c.self.inside.slots.items c.self.inside.lists.items c.leaf.result c.self.invariant few (ap (λ (s : Slot). s.below) c.leaf.ensures))
