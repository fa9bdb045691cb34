use Rattle.std.proofs.Common.{arith}
use Rattle.std.proofs.lemmas.Grind.{common_steps}
use Rattle.chess_loop.proofs.FeedLemmas.{fed_flushed, going_start, going_room, going_cramped, going_on, going_over, going_stops, going_ends}
use Rattle.chess_loop.proofs.driver.feed.Goals as goal

pub loop-at-init : goal.loop-at-init
loop-at-init g c = record {
  going = λ begun holds.
      going_start g.E.LineHandler.step g.E.LineHandler.cut g.E.LineHandler.over g.W.Sink.takes g.W.Sink.failed begun c.args.piece.now
      c.args.engine.now c.args.line.now c.args.writer.now c.args.page.now c.requires.empty holds;
  awake = c.requires.awake;
}

pub returns-in-Err-clause-fed : goal.returns-in-Err-clause-fed
returns-in-Err-clause-fed g c = λ begun holds.
    going_cramped g.E.LineHandler.step g.E.LineHandler.cut g.E.LineHandler.over g.W.Sink.takes g.W.Sink.failed begun c.args.piece.now
    c.args.engine.now c.loop-at.engine c.loop-at.line c.add.new.self c.args.writer.now c.loop-at.writer c.make_room.new.writer
    c.loop-at.page c.make_room.new.self c.make_room.new.self c.loop-at.rest.now c.in-Err.failed
    (c.loop-at.invariant.going begun holds) c.in-Err.ensures.flows

pub returns-in-Err-answer_line-clause-fed : goal.returns-in-Err-answer_line-clause-fed
returns-in-Err-answer_line-clause-fed g c = λ begun holds.
    going_stops g.E.LineHandler.step g.E.LineHandler.cut g.E.LineHandler.over g.W.Sink.takes g.W.Sink.failed begun c.args.piece.now
    c.args.engine.now c.loop-at.engine c.answer_line.new.engine c.loop-at.line c.add.new.self c.add.new.self
    c.args.writer.now c.make_room.new.writer c.answer_line.new.writer c.make_room.new.self c.answer_line.new.page c.answer_line.new.page
    c.loop-at.rest.now _ c.in-Some.at c.in-Err-answer_line.failed
    (going_room g.E.LineHandler.step g.E.LineHandler.cut g.E.LineHandler.over g.W.Sink.takes g.W.Sink.failed begun c.args.piece.now
    c.args.engine.now c.loop-at.engine c.loop-at.line c.args.writer.now c.loop-at.writer c.make_room.new.writer c.loop-at.page c.make_room.new.self c.loop-at.rest.now
    (c.loop-at.invariant.going begun holds) c.in_default-make_room.ensures.flows)
    c.in-Some.ensures (grind (arith, common_steps)) c.add.ensures c.in-Err-answer_line.ensures

pub returns-then-is_over-clause-fed : goal.returns-then-is_over-clause-fed
returns-then-is_over-clause-fed g c = λ begun holds.
    fed_flushed g.E.LineHandler.step g.E.LineHandler.cut g.E.LineHandler.over g.W.Sink.takes g.W.Sink.failed begun c.args.piece.now
    c.args.engine.now c.answer_line.new.engine c.restart.new.self c.args.writer.now c.answer_line.new.writer c.flush.new.writer
    c.answer_line.new.page c.flush.new.self c.flush.result
    (going_over g.E.LineHandler.step g.E.LineHandler.cut g.E.LineHandler.over g.W.Sink.takes g.W.Sink.failed begun c.args.piece.now
    c.args.engine.now c.loop-at.engine c.answer_line.new.engine c.loop-at.line c.add.new.self c.restart.new.self
    c.args.writer.now c.make_room.new.writer c.answer_line.new.writer c.make_room.new.self c.answer_line.new.page
    c.loop-at.rest.now _ c.in-Some.at
    (going_room g.E.LineHandler.step g.E.LineHandler.cut g.E.LineHandler.over g.W.Sink.takes g.W.Sink.failed begun c.args.piece.now
    c.args.engine.now c.loop-at.engine c.loop-at.line c.args.writer.now c.loop-at.writer c.make_room.new.writer c.loop-at.page c.make_room.new.self c.loop-at.rest.now
    (c.loop-at.invariant.going begun holds) c.in_default-make_room.ensures.flows)
    c.in-Some.ensures (grind (arith, common_steps)) c.add.ensures c.in_default-answer_line.ensures (cc))
    c.flush.ensures.flows c.flush.ensures.empty

pub loop-at-preserved : goal.loop-at-preserved
loop-at-preserved g c = record {
  going = λ begun holds.
      going_on g.E.LineHandler.step g.E.LineHandler.cut g.E.LineHandler.over g.W.Sink.takes g.W.Sink.failed begun c.args.piece.now
      c.args.engine.now c.loop-at.engine c.answer_line.new.engine c.loop-at.line c.add.new.self c.restart.new.self
      c.args.writer.now c.make_room.new.writer c.answer_line.new.writer c.make_room.new.self c.answer_line.new.page
      c.loop-at.rest.now _ _ c.in-Some.at
      (going_room g.E.LineHandler.step g.E.LineHandler.cut g.E.LineHandler.over g.W.Sink.takes g.W.Sink.failed begun c.args.piece.now
      c.args.engine.now c.loop-at.engine c.loop-at.line c.args.writer.now c.loop-at.writer c.make_room.new.writer c.loop-at.page c.make_room.new.self c.loop-at.rest.now
      (c.loop-at.invariant.going begun holds) c.in_default-make_room.ensures.flows)
      c.in-Some.ensures (grind (arith, common_steps)) (grind (arith, common_steps))
      c.add.ensures c.in_default-answer_line.ensures c.restart.ensures;
  awake = cc;
}

pub returns-clause-fed : goal.returns-clause-fed
returns-clause-fed g c = λ begun holds.
    fed_flushed g.E.LineHandler.step g.E.LineHandler.cut g.E.LineHandler.over g.W.Sink.takes g.W.Sink.failed begun c.args.piece.now
    c.args.engine.now c.loop-at.engine c.add-2.new.self c.args.writer.now c.loop-at.writer c.flush-2.new.writer
    c.loop-at.page c.flush-2.new.self c.flush-2.result
    (going_ends g.E.LineHandler.step g.E.LineHandler.cut g.E.LineHandler.over g.W.Sink.takes g.W.Sink.failed begun c.args.piece.now
    c.args.engine.now c.loop-at.engine c.loop-at.line c.add-2.new.self c.args.writer.now c.loop-at.writer c.loop-at.page c.loop-at.rest.now
    (c.loop-at.invariant.going begun holds) c.loop-at.invariant.awake c.in_default.ensures c.add-2.ensures)
    c.flush-2.ensures.flows c.flush-2.ensures.empty
