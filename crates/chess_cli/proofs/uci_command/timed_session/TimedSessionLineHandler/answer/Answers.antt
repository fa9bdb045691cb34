use Rattle.std.proofs.Common.{refl, sym}
use Rattle.chess_cli.proofs.WorkLemmas.{work_falls}
use Rattle.chess_cli.proofs.TimedSessionLemmas.{begins, ends, fails, goes_on, same_event}
use Rattle.chess_cli.proofs.uci_command.timed_session.TimedSessionLineHandler.answer.Goals as goal

pub loop-page-init : goal.loop-page-init
loop-page-init g c =
    let first = c.look_at_the_clock.ensures.happened in
    begins g.C.Clock.reads g.W.Sink.takes g.W.Sink.failed c.args.line.now c.args.line c.args.self.now c.look_at_the_clock.new.self c.happen.new.self
    c.args.page.now c.look_at_the_clock.new.page c.happen.new.page c.args.writer.now first.0 refl first.1 first.2 c.happen.ensures.happened c.happen.ensures.clock

pub returns-in-Err : goal.returns-in-Err
returns-in-Err g c =
    fails g.C.Clock.reads g.W.Sink.takes g.W.Sink.failed c.args.line.now c.args.self.now c.loop-page.self c.args.page.now c.loop-page.page c.flush.new.self
    c.args.writer.now c.loop-page.writer c.flush.new.writer c.in-Err.failed c.requires.awake c.requires.short c.loop-page.invariant c.in-Err.ensures.flows

pub loop-page-smaller : goal.loop-page-smaller
loop-page-smaller g c =
    let moment = c.look_at_the_clock-in-loop-page.ensures.happened in
    let slice = c.happen-in-loop-page.ensures.happened in
    work_falls c.loop-page.self.session c.happen-in-loop-page.new.self.session c.look_at_the_clock-in-loop-page.new.self.session moment.0 slice.0 moment.2.0
    c.loop-page-test.ensures.ahead (sym c.loop-page-test.ensures.value) (same_event slice.1) (same_event moment.2.1)

pub loop-page-preserved : goal.loop-page-preserved
loop-page-preserved g c =
    let moment = c.look_at_the_clock-in-loop-page.ensures.happened in
    goes_on g.C.Clock.reads g.W.Sink.takes g.W.Sink.failed c.args.line.now c.args.self.now c.loop-page.self c.happen-in-loop-page.new.self c.look_at_the_clock-in-loop-page.new.self
    c.args.page.now c.loop-page.page c.flush.new.self c.happen-in-loop-page.new.page c.look_at_the_clock-in-loop-page.new.page c.args.writer.now c.loop-page.writer c.flush.new.writer moment.0
    c.loop-page.invariant (sym c.loop-page-test.ensures.value) c.in_default.ensures.flows c.in_default.ensures.empty c.happen-in-loop-page.ensures.happened c.happen-in-loop-page.ensures.clock moment.1 moment.2

pub returns : goal.returns
returns g c =
    ends g.C.Clock.reads g.W.Sink.takes g.W.Sink.failed c.args.line.now c.args.self.now c.loop-page.self c.args.page.now c.loop-page.page c.args.writer.now c.loop-page.writer
    c.requires.awake c.requires.short c.loop-page.invariant (sym c.loop-page-test.ensures.value)
