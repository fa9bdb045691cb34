use Rattle.chess_loop.proofs.SendingLemmas.{sent_on, broken_on}
use Rattle.chess_loop.proofs.output_buffer.OutputBuffer.flush.Goals as goal

pub returns-in-Err-clause-flows : goal.returns-in-Err-clause-flows
returns-in-Err-clause-flows g c = λ start text sent.
    broken_on g.W.Sink.takes g.W.Sink.failed start c.args.writer.now c.write_all.new.writer text c.args.self.now sent (rw c.text.ensures at c.in-Err.ensures)

pub returns-clause-flows : goal.returns-clause-flows
returns-clause-flows g c = λ start text sent.
    rw c.clear.ensures.items
    (sent_on g.W.Sink.takes g.W.Sink.failed start c.args.writer.now c.write_all.new.writer text c.args.self.now _ sent (rw c.text.ensures at c.in_default.ensures))
