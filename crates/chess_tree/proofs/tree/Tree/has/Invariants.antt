use Rattle.std.proofs.Common.{◌≡◌, drop}
use Rattle.chess_tree.specs.GameTree.{has}
use Rattle.chess_tree.proofs.tree.Tree.has.Given as goal

abbrev pub invariant-loop-place : goal.invariant-loop-place
invariant-loop-place g l = has (drop l.place-index l.path) l.node.below ≡ has l.path l.self.tree.below
