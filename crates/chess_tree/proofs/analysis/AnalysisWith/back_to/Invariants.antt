use Rattle.std.proofs.Common.{length}
use Rattle.chess_tree.proofs.AnalysisLemmas.{KeepsFirst}
use Rattle.chess_tree.proofs.analysis.AnalysisWith.back_to.Given as goal

abbrev pub invariant-loop-self : goal.invariant-loop-self
invariant-loop-self g l = KeepsFirst l.depth l.fn.self l.self

abbrev pub decreases-loop-self : goal.decreases-loop-self
decreases-loop-self g l = length l.self.path
