use Rattle.std.proofs.Common.{◌≡◌}
use Rattle.chess_types.specs.board.Lines.{last}
use Rattle.chess_tree.specs.GameTree.{line_to}
use Rattle.chess_tree_tests.proofs.tests.long.lengthen.Given as goal

abbrev pub invariant-loop-ply : goal.invariant-loop-ply
invariant-loop-ply g l = l.live.position ≡ last (line_to l.tree)
