use Rattle.std.proofs.Common.{Some, ap, sym, ◌∙◌}
use Rattle.chess_tree.specs.Forest.{NodeParts}
use Rattle.chess_tree.proofs.ViewLemmas.{child_viewed, no_child, viewed_range}
use Rattle.chess_tree.proofs.node.NodeRef.child.Goals as goal

pub child-requires : goal.child-requires
child-requires g c = viewed_range _ _ c.self.invariant

pub returns-in_default : goal.returns-in_default
returns-in_default g c = no_child _ _ _ c.args.place _ c.self.invariant c.self.view_is (sym c.in_default.is ∙ c.child.ensures)

pub new-requires : goal.new-requires
new-requires g c = (child_viewed _ _ _ c.args.place c.in-Some.number _ c.self.invariant c.self.view_is (sym c.in-Some.is ∙ c.child.ensures)).0

pub returns : goal.returns
returns g c = ap (λ (n : NodeParts). Some n) c.new.ensures ∙ (child_viewed _ _ _ c.args.place c.in-Some.number _ c.self.invariant c.self.view_is (sym c.in-Some.is ∙ c.child.ensures)).1
