use Rattle.std.proofs.Common.{drop, sym, subst, ◌∙◌, arith}
use Rattle.chess_games.specs.Pieces.{IsStopped}
use Rattle.chess_games.specs.declared.cut.CutFault.TheVariants.{Failure}
use Rattle.chess_games.proofs.MarkedLemmas.{Pending, handed_on, pending_border, pending_broken, pending_last, pending_whole, stopped_write}
use Rattle.chess_games.proofs.cut.put_piece.Goals as goal
use Rattle.chess_games.proofs.cut.put_piece.Goals.{then-take_next+in_ok-put_border, else-take_next}

-- the rest is written
pub returns-clause-all : goal.returns-clause-all
returns-clause-all g c =
    pending_whole g.W.Sink.takes g.W.Sink.failed c.args.writer.now c.loop-at.writer c.put.new.writer c.args.piece.now c.loop-at.written (omega (arith, c.loop-at.invariant.0, c.loop-at.auto.at-end))
    c.loop-at.invariant.1 c.in_ok-put.ensures.all

pub returns-clause-well : goal.returns-clause-well
returns-clause-well g c = c.in_ok-put.ensures.well ∙ c.loop-at.invariant.1.well

-- the rest is written in part
pub returns-in_err-put-clause-stopped : goal.returns-in_err-put-clause-stopped
returns-in_err-put-clause-stopped g c =
    handed_on (λ fault. IsStopped g.W.Sink.takes g.W.Sink.failed c.args.piece.now c.args.writer.now c.put.new.writer fault) c.from_residual-in_err-put.result (Failure c.in_err-put.field-0.0) c.from_residual-in_err-put.ensures.1
    (stopped_write g.W.Sink.takes g.W.Sink.failed c.args.writer.now c.put.new.writer c.args.piece.now c.in_err-put.field-0.0 c.in_err-put.ensures.fault
    (pending_last g.W.Sink.takes g.W.Sink.failed c.args.writer.now c.loop-at.writer c.put.new.writer c.args.piece.now c.loop-at.written (omega (arith, c.loop-at.invariant.0, c.loop-at.auto.at-end))
    c.loop-at.invariant.1 c.in_err-put.ensures.broken))

-- the bytes before a border are
pub returns-in_err-put_border-clause-stopped : goal.returns-in_err-put_border-clause-stopped
returns-in_err-put_border-clause-stopped g c =
    let so_far = c.loop-at.invariant in
    handed_on (λ fault. IsStopped g.W.Sink.takes g.W.Sink.failed c.args.piece.now c.args.writer.now c.put_border.new.writer fault) c.from_residual.result (Failure c.in_err-put_border.field-0.0) c.from_residual.ensures.1
    (stopped_write g.W.Sink.takes g.W.Sink.failed c.args.writer.now c.put_border.new.writer c.args.piece.now c.in_err-put_border.field-0.0 c.in_err-put_border.ensures.fault
    (pending_broken g.W.Sink.takes g.W.Sink.failed c.args.writer.now c.loop-at.writer c.put_border.new.writer c.args.piece.now c.loop-at.written c.loop-at.at so_far.0 so_far.1 c.in_err-put_border.ensures.broken
    (c.take_next.ensures c.if-take_next.true) (omega (arith, c.loop-at-test.true))))

-- a byte more, and what comes before it where it is a border
pub loop-at-preserved : goal.loop-at-preserved
loop-at-preserved g c =
    let text = c.args.piece.now in
    let so_far = c.loop-at.invariant in
    elim c.if-take_next.branch [
      | then-take_next+in_ok-put_border w ↦
          let there = pending_border g.W.Sink.takes g.W.Sink.failed c.args.writer.now c.loop-at.writer w.put_border.new.writer text c.loop-at.written c.loop-at.at so_far.0 so_far.1 w.in_ok-put_border.ensures.all w.in_ok-put_border.ensures.well (c.take_next.ensures w.if-take_next.true) (omega (arith, c.loop-at-test.true)) in (
            omega (arith, w.written-is),
            subst (λ n. Pending g.W.Sink.takes g.W.Sink.failed c.args.writer.now text (drop n text) c.if-take_next.writer) (sym w.written-is)
                (subst (λ v. Pending g.W.Sink.takes g.W.Sink.failed c.args.writer.now text (drop c.loop-at.at text) v) (sym w.writer-is) there),
          )
      | else-take_next w ↦ (
        omega (arith, w.written-is, so_far.0),
        subst (λ n. Pending g.W.Sink.takes g.W.Sink.failed c.args.writer.now text (drop n text) c.if-take_next.writer) (sym w.written-is)
            (subst (λ v. Pending g.W.Sink.takes g.W.Sink.failed c.args.writer.now text (drop c.loop-at.written text) v) (sym w.writer-is) so_far.1),
      )
    ]
