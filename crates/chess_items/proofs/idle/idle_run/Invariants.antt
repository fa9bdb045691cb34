use Rattle.std.proofs.Common.{ℕ, length}
use Rattle.chess_items.specs.steps.Idle.{IsIdleRun}
use Rattle.chess_items.proofs.idle.idle_run.Given as goal

abbrev pub invariant-loop-next : goal.invariant-loop-next
invariant-loop-next l = (at : ℕ) → IsIdleRun at l.fn.place l.fn.bytes l.place l.rest

abbrev pub decreases-loop-next : goal.decreases-loop-next
decreases-loop-next l = length l.rest
