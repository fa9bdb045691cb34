use Rattle.std.proofs.Common.{◌≡◌}
use Rattle.chess_board_tests.proofs.tests.lines.push_all.Given as goal

abbrev pub invariant-loop-text : goal.invariant-loop-text
invariant-loop-text g l = l.line.looked ≡ 0
