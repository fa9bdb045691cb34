use Rattle.std.proofs.Common.{◌∙◌}
use Rattle.chess_tree.proofs.ViewLemmas.{children_seen, viewed_children, viewed_range}
use Rattle.chess_tree.proofs.node.NodeRef.children.Goals as goal

pub child_count-requires-clause-there : goal.child_count-requires-clause-there
child_count-requires-clause-there g c = viewed_range _ _ c.self.invariant

pub child_count-requires-clause-few : goal.child_count-requires-clause-few
child_count-requires-clause-few g c = viewed_children _ _ c.self.invariant

pub returns : goal.returns
returns g c = c.child_count.ensures ∙ children_seen _ _ _ _ c.self.invariant c.self.view_is
