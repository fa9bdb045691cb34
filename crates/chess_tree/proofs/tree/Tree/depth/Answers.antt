use Rattle.std.proofs.Common.{length, sym, ap, ◌∙◌, arith}
use Rattle.chess_tree.specs.GameTree.{TreeParts, line_to}
use Rattle.chess_tree.proofs.LineLemmas.{line_length}
use Rattle.chess_tree.proofs.KeptLemmas.{shallow}
use Rattle.chess_tree.proofs.tree.Tree.depth.Goals as goal

pub overflow_cast-result : goal.overflow_cast-result
overflow_cast-result g c = let few = shallow _ c.self.inside.nodes c.self.invariant in omega (arith, few, c.depth.ensures)

pub returns-clause-at_most : goal.returns-clause-at_most
returns-clause-at_most g c = let few = shallow _ c.self.inside.nodes c.self.invariant in omega (arith, few, c.depth.ensures)

pub returns-clause-line : goal.returns-clause-line
returns-clause-line g c = c.depth.ensures ∙ sym (line_length _ c.self.invariant) ∙ ap (λ (t : TreeParts). length (line_to t).moves) c.self.view_is
