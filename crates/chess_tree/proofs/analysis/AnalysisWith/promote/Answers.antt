use Rattle.chess_tree.proofs.AnalysisLemmas.{kept_promote}
use Rattle.chess_tree.proofs.analysis.AnalysisWith.promote.Goals as goal

pub invariant_of-self : goal.invariant_of-self
invariant_of-self g c = kept_promote _ _ c.self.invariant c.promote.result _ _ c.promote.ensures.ok c.promote.ensures.line c.promote.ensures.err c.promote.ensures.at_root
