use Rattle.chess_tree.proofs.AnalysisLemmas.{kept_no_nags}
use Rattle.chess_tree.proofs.analysis.AnalysisWith.clear_nags.Goals as goal

pub invariant_of-self : goal.invariant_of-self
invariant_of-self g c = kept_no_nags _ _ c.self.invariant c.clear_nags.result _ c.clear_nags.ensures.ok c.clear_nags.ensures.line c.clear_nags.ensures.err
