use Rattle.chess_cli.proofs.WorkLemmas.{work}
use Rattle.chess_cli.proofs.TimedSessionLemmas.{Underway}
use Rattle.chess_cli.proofs.uci_command.timed_session.TimedSessionLineHandler.answer.Given as goal

abbrev pub invariant-loop-page : goal.invariant-loop-page
invariant-loop-page g l = Underway g.C.Clock.reads g.W.Sink.takes g.W.Sink.failed l.line l.fn.self l.fn.page l.fn.writer l.self l.page l.writer

abbrev pub decreases-loop-page : goal.decreases-loop-page
decreases-loop-page g l = work l.self.session.search
