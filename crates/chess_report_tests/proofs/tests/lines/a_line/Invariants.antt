use Rattle.std.proofs.Common.{◌≡◌}
use Rattle.chess_types.specs.board.Position.{start}
use Rattle.chess_report_tests.proofs.tests.lines.a_line.Given as goal

abbrev pub invariant-loop-text : goal.invariant-loop-text
invariant-loop-text l = record { none : l.line.looked ≡ 0; start : l.line.line.start ≡ start }
