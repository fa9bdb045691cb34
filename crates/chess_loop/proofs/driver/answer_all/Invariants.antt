use Rattle.std.proofs.Common.{◌≡◌, [], false}
use Rattle.chess_loop.proofs.EndLemmas.{Underway}
use Rattle.chess_loop.proofs.driver.answer_all.Given as goal

abbrev pub invariant-loop-turn : goal.invariant-loop-turn
invariant-loop-turn g l = record {
  underway : Underway g.E.LineHandler.step l.fn.engine g.R.Source g.W.Sink l._turn l.engine l.line l.fn.reader l.reader l.fn.writer l.writer;
  awake : g.E.LineHandler.over l.engine ≡ false;
  empty : l.page ≡ [];
}
