use Rattle.std.specs.Prelude.{◌≡◌, None}
use Rattle.chess_pgn.specs.Sources.{IsSound}
use Rattle.chess_cli.specs.steps.Collecting.{SoFar}
use Rattle.chess_cli.proofs.pgn_command.write_games.Given as goal

abbrev pub invariant-loop-game : goal.invariant-loop-game
invariant-loop-game g l = record {
  sound : IsSound g.R.Source.ended l.games;
  none : l.games.fault ≡ None;
  written : SoFar g.R.Source g.W.Sink l._game l.fn.games.text l.games.text l.fn.writer l.writer;
}
