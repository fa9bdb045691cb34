use Rattle.std.proofs.Common.{length}
use Rattle.chess_tree.specs.GameTree.{main_line, nodes_here}
use Rattle.chess_tree.proofs.WalkLemmas.{Ending}
use Rattle.chess_tree.proofs.analysis.AnalysisWith.end.Given as goal

abbrev pub invariant-loop : goal.invariant-loop
invariant-loop g l = Ending l.fn.self l.self

abbrev pub decreases-loop : goal.decreases-loop
decreases-loop g l = length (main_line (nodes_here l.self))
