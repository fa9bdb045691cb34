use Rattle.chess_pgn.specs.Sources.{IsSound}
use Rattle.chess_pgn_tests.proofs.tests.passing.assert_steps.Given as goal

abbrev pub invariant-loop-step : goal.invariant-loop-step
invariant-loop-step g l = IsSound g.R.Source.ended l.games
