use Rattle.std.proofs.Common.{Some, ap, sym, ◌∙◌, arith}
use Rattle.chess_tree.specs.Forest.{NodeParts}
use Rattle.chess_tree.proofs.ViewLemmas.{side_end, side_next, viewed_range}
use Rattle.chess_tree.proofs.node.Children.next.Goals as goal

pub child-requires : goal.child-requires
child-requires g c = viewed_range _ _ c.self.invariant

pub returns-in_default-clause-first : goal.returns-in_default-clause-first
returns-in_default-clause-first g c = (side_end _ _ _ _ _ c.self.invariant c.self.view_is (sym c.in_default.is ∙ c.child.ensures)).0

pub returns-in_default-clause-rest : goal.returns-in_default-clause-rest
returns-in_default-clause-rest g c = (side_end _ _ _ _ _ c.self.invariant c.self.view_is (sym c.in_default.is ∙ c.child.ensures)).1

pub overflow_add-self : goal.overflow_add-self
overflow_add-self g c = omega (arith, (side_next _ _ _ _ _ c.self.invariant c.self.view_is c.in-Some.number (sym c.in-Some.is ∙ c.child.ensures)).3)

pub new-requires : goal.new-requires
new-requires g c = (side_next _ _ _ _ _ c.self.invariant c.self.view_is c.in-Some.number (sym c.in-Some.is ∙ c.child.ensures)).0

pub returns-clause-first : goal.returns-clause-first
returns-clause-first g c = ap (λ (n : NodeParts). Some n) c.new.ensures ∙ (side_next _ _ _ _ _ c.self.invariant c.self.view_is c.in-Some.number (sym c.in-Some.is ∙ c.child.ensures)).1

pub returns-clause-rest : goal.returns-clause-rest
returns-clause-rest g c = (side_next _ _ _ _ _ c.self.invariant c.self.view_is c.in-Some.number (sym c.in-Some.is ∙ c.child.ensures)).2
