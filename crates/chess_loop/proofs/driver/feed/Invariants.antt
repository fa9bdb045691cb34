use Rattle.std.proofs.Common.{◌≡◌, ℕ, List, length, false}
use Rattle.chess_loop.specs.steps.Reads.{Holds}
use Rattle.chess_loop.proofs.FeedLemmas.{Going}
use Rattle.chess_loop.proofs.driver.feed.Given as goal

abbrev pub invariant-loop-at : goal.invariant-loop-at
invariant-loop-at g l = record {
  going : (begun : List ℕ) → Holds l.fn.line begun →
      Going g.E.LineHandler.step g.E.LineHandler.over g.W.Sink.takes g.W.Sink.failed begun l.piece l.fn.engine l.engine l.line l.fn.writer l.page l.writer l.rest;
  awake : g.E.LineHandler.over l.engine ≡ false;
}

abbrev pub decreases-loop-at : goal.decreases-loop-at
decreases-loop-at g l = length l.rest
