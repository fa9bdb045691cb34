use Rattle.std.proofs.Common.{[], take, inl, inr, arith, ◌∙◌, sym}
use Rattle.std.proofs.lemmas.Grind.{common_steps}
use Rattle.chess_loop.proofs.EndLemmas.{good_end, unwritten_end, underway_on, ends_over, ends_unwritten, ends_good, ends_unfinished}
use Rattle.chess_loop.proofs.driver.answer_all.Goals as goal

pub returns-in-Err-finish : goal.returns-in-Err-finish
returns-in-Err-finish g c = unwritten_end (
    ends_unfinished g.E.LineHandler.step g.E.LineHandler.cut g.E.LineHandler.over c.args.engine.now g.R.Source g.W.Sink c.loop-turn._turn
    c.loop-turn.engine c.finish.new.engine c.loop-turn.line
    c.args.reader.now c.loop-turn.reader c.read.new.self c.args.writer.now c.loop-turn.writer c.finish.new.writer c.in-Err-finish.field-0
    (record { underway = c.loop-turn.invariant.underway; call = rw c.in-Ok-eq0.field-0-test at c.in-Ok-eq0.ensures.gives; reading = c.in-Ok-eq0.ensures.failed; awake = c.loop-turn.invariant.awake })
    (c.in-Ok-eq0.ensures.ended c.in-Ok-eq0.field-0-test (omega arith)) c.in-Err-finish.ensures)

pub returns-in-Ok-eq0 : goal.returns-in-Ok-eq0
returns-in-Ok-eq0 g c = good_end (inl (
    ends_good g.E.LineHandler.step g.E.LineHandler.cut g.E.LineHandler.over c.args.engine.now g.R.Source g.W.Sink c.loop-turn._turn
    c.loop-turn.engine c.finish.new.engine c.loop-turn.line
    c.args.reader.now c.loop-turn.reader c.read.new.self c.args.writer.now c.loop-turn.writer c.finish.new.writer
    (record { underway = c.loop-turn.invariant.underway; call = rw c.in-Ok-eq0.field-0-test at c.in-Ok-eq0.ensures.gives; reading = c.in-Ok-eq0.ensures.failed; awake = c.loop-turn.invariant.awake })
    (c.in-Ok-eq0.ensures.ended c.in-Ok-eq0.field-0-test (omega arith)) c.in_default.ensures))

pub returns-in-Err-feed : goal.returns-in-Err-feed
returns-in-Err-feed g c = unwritten_end (
    ends_unwritten g.E.LineHandler.step g.E.LineHandler.cut g.E.LineHandler.over c.args.engine.now g.R.Source g.W.Sink c.loop-turn._turn
    c.loop-turn.engine c.feed.new.engine c.loop-turn.line c.feed.new.line
    c.args.reader.now c.loop-turn.reader c.read.new.self c.args.writer.now c.loop-turn.writer c.feed.new.writer
    (take c.in-Ok.count c.read.new.buf) [] c.in-Err-feed.field-0
    (record { underway = c.loop-turn.invariant.underway; call = c.in-Ok.ensures.gives; reading = c.in-Ok.ensures.failed; awake = c.loop-turn.invariant.awake }) c.in-Err-feed.ensures.fed)

pub returns-then-is_over : goal.returns-then-is_over
returns-then-is_over g c = good_end (inr (
    ends_over g.E.LineHandler.step g.E.LineHandler.cut g.E.LineHandler.over c.args.engine.now g.R.Source g.W.Sink c.loop-turn._turn
    c.loop-turn.engine c.feed.new.engine c.loop-turn.line c.feed.new.line
    c.args.reader.now c.loop-turn.reader c.read.new.self c.args.writer.now c.loop-turn.writer c.feed.new.writer
    (take c.in-Ok.count c.read.new.buf)
    (record { underway = c.loop-turn.invariant.underway; call = c.in-Ok.ensures.gives; reading = c.in-Ok.ensures.failed; awake = c.loop-turn.invariant.awake }) c.in_default-feed.ensures.fed (sym c.is_over.ensures ∙ c.if-is_over.true)))

pub loop-turn-preserved : goal.loop-turn-preserved
loop-turn-preserved g c = record {
  underway = underway_on g.E.LineHandler.step g.E.LineHandler.cut g.E.LineHandler.over c.args.engine.now g.R.Source g.W.Sink c.loop-turn._turn
      c.loop-turn.engine c.feed.new.engine c.loop-turn.line c.feed.new.line
      c.args.reader.now c.loop-turn.reader c.read.new.self c.args.writer.now c.loop-turn.writer c.feed.new.writer
      (take c.in-Ok.count c.read.new.buf) []
      (record { underway = c.loop-turn.invariant.underway; call = c.in-Ok.ensures.gives; reading = c.in-Ok.ensures.failed; awake = c.loop-turn.invariant.awake })
      (grind (arith, common_steps, c.in-Ok.count-test.1, c.in-Ok.ensures.bound)) c.in_default-feed.ensures.fed (sym c.is_over.ensures ∙ c.if-is_over.false);
  awake = sym c.is_over.ensures ∙ c.if-is_over.false;
  empty = c.in_default-feed.ensures.empty;
}
