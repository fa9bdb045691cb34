use Rattle.std.proofs.Common.{◌≡◌}
use Rattle.chess_repair.proofs.spelling.Spelling.run.Given as goal

abbrev pub invariant-loop : goal.invariant-loop
invariant-loop g l = l.self ≡ l.fn.self
