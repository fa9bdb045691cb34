use Rattle.std.proofs.Common.{◌≡◌}
use Rattle.chess_board_tests.proofs.tests.lines.ends_at_twenty_thousand_plies.Given as goal

abbrev pub invariant-loop-round : goal.invariant-loop-round
invariant-loop-round g l = l.line.looked ≡ 0
