use Rattle.std.proofs.Common.{◌≡◌}
use Rattle.chess_search_tests.proofs.tests.replies.follow.Given as goal

abbrev pub invariant-loop-reply : goal.invariant-loop-reply
invariant-loop-reply g l = l.line.looked ≡ 0
