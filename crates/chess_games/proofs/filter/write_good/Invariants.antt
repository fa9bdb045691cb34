use Rattle.std.specs.Prelude.{◌≡◌, None}
use Rattle.chess_pgn.specs.Sources.{IsSound}
use Rattle.chess_games.proofs.FilteredLemmas.{SoFar}
use Rattle.chess_games.proofs.filter.write_good.Given as goal

-- the games go on, and those so far are written or counted
abbrev pub invariant-loop-before : goal.invariant-loop-before
invariant-loop-before g l = record {
  sound : IsSound g.R.Source.ended l.games;
  none : l.games.fault ≡ None;
  so_far : SoFar g.R.Source.gives g.R.Source.failed g.R.Source.ended g.W.Sink.takes g.W.Sink.failed l.wanted.form l.wanted.part l.fn.games.text l.games.text l.fn.writer l.writer l.bad l.before;
}
