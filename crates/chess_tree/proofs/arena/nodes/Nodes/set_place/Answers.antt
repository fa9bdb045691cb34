use Rattle.chess_tree.proofs.arena.nodes.Nodes.set_place.Goals as goal
use Rattle.std.proofs.Common.{ap}
use Rattle.chess_tree.specs.declared.arena.slot.Slot.{Slot}
use Rattle.chess_tree.proofs.SlotLemmas.{kept_same, place_now}

pub invariant_of-self : goal.invariant_of-self
invariant_of-self g c = kept_same c.args.at c.self.invariant c.self.view_is c.requires c.index.result c.index.result c.index_mut.result.now _ (c.index_mut.ensures.value, c.index.ensures) c.index.ensures (ap (λ (s : Slot). s.below) c.set_place.ensures)

pub returns : goal.returns
returns g c = rw c.set_place.ensures (place_now c.args.at c.self.invariant c.self.view_is c.requires c.index.result c.index.result c.index_mut.result.now c.args.place (c.index_mut.ensures.value, c.index.ensures) c.index.ensures)
