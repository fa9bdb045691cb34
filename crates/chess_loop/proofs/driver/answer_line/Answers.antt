use Rattle.std.proofs.Common.{Ok, [], ◌∷◌}
use Rattle.chess_loop.proofs.SendingLemmas.{puts, sends_one}
use Rattle.chess_loop.proofs.driver.answer_line.Goals as goal

pub returns-in-Ok : goal.returns-in-Ok
returns-in-Ok g c = λ bytes holds. rw (c.in-Ok.ensures.read bytes holds) at c.answer.ensures

pub returns-in-Err : goal.returns-in-Err
returns-in-Err g c = λ bytes holds.
    let told = c.refuse.ensures bytes (c.in-Err.ensures.read bytes holds) in
    let on_page = puts g.W.Sink.takes g.W.Sink.failed c.args.writer.now c.args.page.now told.0 c.refuse.new.page told.2 in
    (told.0 ∷ [], told.1, sends_one g.W.Sink.takes g.W.Sink.failed c.args.writer.now c.args.writer.now c.args.page.now told.0 c.refuse.new.page (Ok tt) on_page)
