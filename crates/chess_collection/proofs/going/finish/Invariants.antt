use Rattle.std.proofs.Common.{◌≡◌}
use Rattle.chess_collection.proofs.GoingLemmas.{LateSoFar}
use Rattle.chess_collection.proofs.going.finish.Given as goal

-- the texts of the stretches so far of the bytes at hand are on the page or written
abbrev pub invariant-loop-done : goal.invariant-loop-done
invariant-loop-done g l = record {
  source : l.window.source ≡ l.fn.window.source;
  so_far : LateSoFar (λ n o b u is t. g.H.GameHandler.handles l.handler n o b u is t) g.W.Sink.takes g.W.Sink.failed l.before l.fn.offset l.fn.window.bytes l.fn.page l.fn.writer l.done l.offset l.window.bytes l.page l.writer;
}
