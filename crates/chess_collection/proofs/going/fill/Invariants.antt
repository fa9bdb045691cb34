use Rattle.chess_collection.specs.Windows.{KnowsItsEnd}
use Rattle.chess_collection.proofs.GoingLemmas.{SoFar}
use Rattle.chess_collection.proofs.going.fill.Given as goal

-- stretches are gone over, and what is written of them is on the page or written
abbrev pub invariant-loop-before : goal.invariant-loop-before
invariant-loop-before g l = record {
  sound : KnowsItsEnd g.R.Source.ended l.window;
  so_far : SoFar g.R.Source.gives g.R.Source.failed (λ n o b u is t. g.H.GameHandler.handles l.handler n o b u is t) g.H.GameHandler.white g.W.Sink.takes g.W.Sink.failed g.R.Source.ended l.fn.window l.fn.page l.fn.writer l.window l.page l.writer l.before l.totals.bytes l.totals.passed l.totals.bad;
}
