use Rattle.std.proofs.Common.{refl, ◌∙◌}
use Rattle.chess_loop.proofs.SendingLemmas.{answers_one}
use Rattle.perft.specs.Lines.{AnswersAlone}
use Rattle.perft.proofs.counter.CounterLineHandler.answer.Goals as goal

pub returns : goal.returns
returns g c =
    answers_one g.W.Sink.takes g.W.Sink.failed AnswersAlone c.args.self.now c.args.self.now c.args.line.now c.as_bytes.result.now c.args.page.now c.send.new.self
    c.args.writer.now c.send.new.writer c.send.result
    (c.as_bytes.ensures.value ∙ c.as_str.ensures.value ∙ c.whole_line.ensures, refl) c.send.ensures
