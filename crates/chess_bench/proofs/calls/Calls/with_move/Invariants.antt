use Rattle.std.proofs.Common.{◌≡◌}
use Rattle.chess_bench.proofs.calls.Calls.with_move.Given as goal

abbrev pub invariant-loop-round : goal.invariant-loop-round
invariant-loop-round l = l.live.position ≡ l.fn.live.position

abbrev pub invariant-loop-round-2 : goal.invariant-loop-round-2
invariant-loop-round-2 l = l.live.position ≡ l.fn.live.position

abbrev pub invariant-loop-round-3 : goal.invariant-loop-round-3
invariant-loop-round-3 l = l.live.position ≡ l.fn.live.position

abbrev pub invariant-loop-round-4 : goal.invariant-loop-round-4
invariant-loop-round-4 l = l.live.position ≡ l.fn.live.position
