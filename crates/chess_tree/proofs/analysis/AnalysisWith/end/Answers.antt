use Rattle.std.proofs.Common.{sym, ◌∙◌}
use Rattle.chess_tree.proofs.WalkLemmas.{ending_there}
use Rattle.chess_tree.proofs.analysis.AnalysisWith.end.Goals as goal

pub returns : goal.returns
returns g c = ending_there _ _ _ _ (sym c.is_ok.ensures.value ∙ c.loop-test.false) c.step.ensures c.loop.invariant
