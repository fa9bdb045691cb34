use Rattle.std.proofs.Common.{◌∙◌}
use Rattle.chess_tree.proofs.CloneLemmas.{entries_copied, kept_copied}
use Rattle.chess_tree.proofs.arena.nodes.NodesClone.clone.Goals as goal

pub invariant_of-result : goal.invariant_of-result
invariant_of-result g c =
    kept_copied c.self.inside.slots.items c.in_ok-clone.field-0.items c.self.inside.lists.items c.in_ok-clone-2.field-0.items
    c.in_ok-clone.ensures.cases.0 c.in_ok-clone-2.ensures.cases.0 c.self.invariant

pub returns : goal.returns
returns g c = record {
  cases = entries_copied c.self.inside.slots.items c.in_ok-clone.field-0.items c.self.inside.lists.items c.in_ok-clone-2.field-0.items
      c.in_ok-clone.ensures.cases.0 c.in_ok-clone-2.ensures.cases.0 ∙ c.self.view_is;
}
