use Rattle.chess_tree.proofs.AnalysisLemmas.{kept_back}
use Rattle.chess_tree.proofs.analysis.AnalysisWith.back.Goals as goal

pub invariant_of-self-2 : goal.invariant_of-self-2
invariant_of-self-2 g c = kept_back _ _ c.self.invariant _ _ c.pop-left.result c.in_ok-back.ensures.ok c.in_ok-back.ensures.line c.pop-left.ensures.line c.pop-left.ensures.room c.pop-left.ensures.looked
