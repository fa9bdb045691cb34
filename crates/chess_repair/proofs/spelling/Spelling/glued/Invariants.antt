use Rattle.std.proofs.Common.{◌≡◌}
use Rattle.chess_repair.proofs.spelling.Spelling.glued.Given as goal

abbrev pub invariant-loop-at : goal.invariant-loop-at
invariant-loop-at g l = l.self ≡ l.fn.self
