use Rattle.std.proofs.Common.{length}
use Rattle.chess_loop.specs.steps.Sending.{Sent}
use Rattle.chess_loop.proofs.write.write_all.Given as goal

abbrev pub invariant-loop-rest : goal.invariant-loop-rest
invariant-loop-rest g l = Sent g.W.Sink.takes g.W.Sink.failed l.fn.writer l.text l.rest l.writer

abbrev pub decreases-loop-rest : goal.decreases-loop-rest
decreases-loop-rest g l = length l.rest
