use Rattle.std.proofs.Common.{Option, is_none, ap, sym, ◌∙◌}
use Rattle.chess_tree.specs.Forest.{NodeParts}
use Rattle.chess_tree.proofs.ViewLemmas.{side_end, side_next, viewed_range}
use Rattle.chess_tree.proofs.node.Children.is_empty.Goals as goal

pub child-requires : goal.child-requires
child-requires g c = viewed_range _ _ c.self.invariant

pub returns-in_default : goal.returns-in_default
returns-in_default g c = ap (λ (o : Option NodeParts). is_none o) (side_end _ _ _ _ _ c.self.invariant c.self.view_is (sym c.in_default.is ∙ c.child.ensures)).0

pub returns : goal.returns
returns g c = ap (λ (o : Option NodeParts). is_none o) (side_next _ _ _ _ _ c.self.invariant c.self.view_is _ (sym c.in-Some.is ∙ c.child.ensures)).1
