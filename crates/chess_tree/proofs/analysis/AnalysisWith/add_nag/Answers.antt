use Rattle.chess_tree.proofs.AnalysisLemmas.{kept_nag}
use Rattle.chess_tree.proofs.analysis.AnalysisWith.add_nag.Goals as goal

pub invariant_of-self : goal.invariant_of-self
invariant_of-self g c = kept_nag _ _ c.self.invariant c.args.nag c.add_nag.result _ c.add_nag.ensures.ok c.add_nag.ensures.line c.add_nag.ensures.err
