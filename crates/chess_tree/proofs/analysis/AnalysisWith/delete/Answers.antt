use Rattle.chess_tree.proofs.AnalysisLemmas.{kept_delete}
use Rattle.chess_tree.proofs.analysis.AnalysisWith.delete.Goals as goal

pub invariant_of-self-2 : goal.invariant_of-self-2
invariant_of-self-2 g c = kept_delete _ _ c.self.invariant _ _ c.pop-gone.result c.in_ok-delete.ensures.at_root c.in_ok-delete.ensures.ok c.in_ok-delete.ensures.line c.pop-gone.ensures.line c.pop-gone.ensures.room c.pop-gone.ensures.looked
