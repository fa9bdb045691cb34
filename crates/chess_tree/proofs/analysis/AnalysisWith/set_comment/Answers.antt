use Rattle.chess_tree.proofs.AnalysisLemmas.{kept_comment}
use Rattle.chess_tree.proofs.analysis.AnalysisWith.set_comment.Goals as goal

pub invariant_of-self : goal.invariant_of-self
invariant_of-self g c = kept_comment _ _ c.self.invariant c.args.text.now c.set_comment.result _ c.set_comment.ensures.ok c.set_comment.ensures.line c.set_comment.ensures.err c.set_comment.ensures.bad_comment
