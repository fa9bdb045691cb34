use Rattle.std.proofs.Common.{sym, ◌∙◌}
use Rattle.chess_tree.proofs.AnalysisLemmas.{kept_step, room_down}
use Rattle.chess_tree.proofs.analysis.AnalysisWith.step.Goals as goal

pub push_prepared-requires-clause-room : goal.push_prepared-requires-clause-room
push_prepared-requires-clause-room g c = room_down _ _ c.self.invariant c.args.place c.in_ok-step.ensures.no_such

pub invariant_of-self-2 : goal.invariant_of-self-2
invariant_of-self-2 g c =
    kept_step _ _ c.self.invariant c.args.place _ _ _ c.in_ok-step.ensures.no_such c.in_ok-step.ensures.ok c.in_ok-step.ensures.line (sym c.in-Some.is ∙ c.move_at.ensures)
    c.push_prepared.ensures.line c.push_prepared.ensures.room c.push_prepared.ensures.looked
