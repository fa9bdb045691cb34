use Rattle.std.proofs.Common.{◌≡◌, ap, ◌∙◌}
use Rattle.chess_tree.specs.declared.arena.slot.Below.{Below}
use Rattle.chess_tree.specs.declared.arena.slot.Slot.{Slot}
use Rattle.chess_tree.proofs.SlotLemmas.{kept_same, leaf_now}
use Rattle.chess_tree.proofs.arena.nodes.Nodes.write.Goals as goal

pub invariant_of-self : goal.invariant_of-self
invariant_of-self g c =
    kept_same c.args.at c.self.invariant c.self.view_is c.requires.there c.index.result c.index-3.result c.index-2.result.now c.of.result (c.index-2.ensures, c.index.ensures) c.index-3.ensures
    (ap (λ (s : Slot). s.below) c.of.ensures ∙ c.below-below.ensures)

pub returns : goal.returns
returns g c =
    let written : Below → Slot = λ below. record { played = c.args.played; parent = c.args.parent; place = c.args.place; below = below } in
    let is : c.of.result ≡ written c.index-2.result.now.below = c.of.ensures ∙ ap written c.below-below.ensures in
    rw is (leaf_now c.args.at c.self.invariant c.self.view_is c.requires.there c.index.result c.index-3.result c.index-2.result.now c.args.played c.args.parent c.args.place (c.index-2.ensures, c.index.ensures) c.index-3.ensures c.requires.bare)
