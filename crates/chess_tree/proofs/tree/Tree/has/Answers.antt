use Rattle.std.proofs.Common.{sym, ◌∙◌}
use Rattle.chess_tree.proofs.WalkLemmas.{has_not, has_on}
use Rattle.chess_tree.proofs.tree.Tree.has.Goals as goal

pub returns-in_default : goal.returns-in_default
returns-in_default g c = has_not _ _ _ _ c.loop-place.invariant c.loop-place-test.true (sym c.in_default.is ∙ c.child.ensures)

pub loop-place-preserved : goal.loop-place-preserved
loop-place-preserved g c = has_on _ _ _ _ _ c.loop-place.invariant c.loop-place-test.true (sym c.in-Some.is ∙ c.child.ensures)
