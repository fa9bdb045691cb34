use Rattle.std.proofs.Common.{◌≡◌}
use Rattle.chess_bench.proofs.calls.Calls.with_moves.Given as goal

abbrev pub invariant-loop-m : goal.invariant-loop-m
invariant-loop-m l = l.live.position ≡ l.fn.live.position
