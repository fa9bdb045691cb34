use Rattle.std.proofs.Common.{◌≡◌}
use Rattle.chess_board_tests.proofs.tests.lines.run.Given as goal

abbrev pub invariant-loop-index : goal.invariant-loop-index
invariant-loop-index g l = l.line.looked ≡ 0
