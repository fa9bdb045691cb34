use Rattle.chess_loop.proofs.SendingLemmas.{broken_longer, sends_behind}
use Rattle.chess_loop.proofs.output_buffer.OutputBuffer.send.Goals as goal

pub returns-in-Err : goal.returns-in-Err
returns-in-Err g c = λ start before sent.
    broken_longer g.W.Sink.takes g.W.Sink.failed start c.flush.new.writer before c.args.text.now (c.in-Err.ensures.flows start before sent)

pub returns : goal.returns
returns g c =
    rw c.in_default.ensures.empty
    (sends_behind g.W.Sink.takes g.W.Sink.failed c.args.writer.now c.flush.new.writer c.write_all.new.writer c.args.self.now c.args.text.now c.write_all.result
    (rw c.in_default.ensures.empty at c.in_default.ensures.flows) c.write_all.ensures)
