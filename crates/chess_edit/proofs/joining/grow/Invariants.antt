use Rattle.chess_tree.specs.Forest.{height}
use Rattle.chess_edit.proofs.JoinLemmas.{Grown}
use Rattle.chess_edit.proofs.joining.grow.Given as goal

abbrev pub invariant-loop-next : goal.invariant-loop-next
invariant-loop-next g l = Grown l.fn.tree l.tree l.node.below l.fn.node.below

abbrev pub decreases-loop-next : goal.decreases-loop-next
decreases-loop-next g l = height l.node.below
