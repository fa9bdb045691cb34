use Rattle.std.proofs.Common.{sym, ◌∙◌}
use Rattle.chess_loop.proofs.FeedLemmas.{finish_broken, finish_whole}
use Rattle.chess_loop.proofs.driver.finish.Goals as goal

pub returns : goal.returns
returns g c = λ bytes holds.
    finish_broken g.E.LineHandler.step g.E.LineHandler.cut g.W.Sink.takes g.W.Sink.failed c.args.engine.now c.answer_line.new.engine c.args.line.now
    c.args.writer.now c.answer_line.new.writer c.args.page.now c.answer_line.new.page bytes c.in-Err.failed c.requires.empty holds
    (sym (c.is_empty.ensures bytes holds) ∙ c.if-is_empty.false) c.in-Err.ensures

pub returns-in_default : goal.returns-in_default
returns-in_default g c = λ bytes holds.
    finish_whole g.E.LineHandler.step g.E.LineHandler.cut g.W.Sink.takes g.W.Sink.failed c.args.engine.now c.answer_line.new.engine c.args.line.now
    c.args.writer.now c.answer_line.new.writer c.flush.new.writer c.args.page.now c.answer_line.new.page c.flush.new.self bytes c.flush.result c.requires.empty holds
    (sym (c.is_empty.ensures bytes holds) ∙ c.if-is_empty.false) c.in_default.ensures c.flush.ensures.flows c.flush.ensures.empty
