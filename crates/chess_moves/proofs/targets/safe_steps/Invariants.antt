use Rattle.chess_moves.specs.steps.Guarded.{is_safe_step}
use Rattle.chess_moves.proofs.SafeSteps.{FoundAmong}
use Rattle.chess_moves.proofs.targets.safe_steps.Given as goal

abbrev pub invariant-loop-to : goal.invariant-loop-to
invariant-loop-to g l = record {
  can : (goal.iterator-loop-to g).can_next l.to-iterator;
  finite : (goal.iterator-loop-to g).is_finite l.to-iterator;
  found : FoundAmong (is_safe_step l.fn.live.position l.fn.guard.king) l.fn.steps l.safe l.to-iterator;
}
