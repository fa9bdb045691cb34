use Rattle.std.proofs.Common.{◌≡◌}
use Rattle.chess_tree.specs.GameTree.{line_to}
use Rattle.chess_guide.proofs.together.Given as goal

-- the line and the tree have the same moves
abbrev pub invariant-loop-text : goal.invariant-loop-text
invariant-loop-text l = (l.line.line ≡ line_to l.tree) × (l.line.looked ≡ 0)
