use Rattle.std.proofs.Common.{◌≡◌}
use Rattle.chess_board_tests.proofs.tests.lines.push_until_refused.Given as goal

abbrev pub invariant-loop-number : goal.invariant-loop-number
invariant-loop-number g l = l.line.looked ≡ 0
