use Rattle.std.proofs.Common.{◌≡◌}
use Rattle.chess_uci_tests.proofs.tests.plain.line_of.Given as goal

abbrev pub invariant-loop-text : goal.invariant-loop-text
invariant-loop-text g l = l.line.looked ≡ 0
