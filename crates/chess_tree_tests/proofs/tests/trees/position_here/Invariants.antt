use Rattle.std.proofs.Common.{◌≡◌, take}
use Rattle.chess_types.specs.board.Lines.{play}
use Rattle.chess_tree.specs.Forest.{below_at}
use Rattle.chess_tree.specs.GameTree.{moves_along}
use Rattle.chess_tree_tests.proofs.tests.trees.position_here.Given as goal

abbrev pub invariant-loop-ply : goal.invariant-loop-ply
invariant-loop-ply g l = record {
  here : l.live.position ≡ play l.tree.tree.start (moves_along (take l.ply l.tree.path) l.tree.tree.below);
  below : l.node.below ≡ below_at (take l.ply l.tree.path) l.tree.tree.below;
}
