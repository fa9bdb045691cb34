use Rattle.std.proofs.Common.{◌≡◌, ◌≤◌, drop}
use Rattle.chess_tree.specs.Forest.{height}
use Rattle.chess_tree.specs.GameTree.{root_node}
use Rattle.chess_walk.specs.Order.{node_along}
use Rattle.chess_walk.proofs.node.node_at.Given as goal

-- what is left of the path leads on from the node
abbrev pub invariant-loop-place : goal.invariant-loop-place
invariant-loop-place g l = record {
  leads : node_along (drop l.place-index l.path) l.node ≡ node_along l.path (root_node l.fn.tree.tree);
  high : height l.node.below ≤ 20000;
}
