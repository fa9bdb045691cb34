use Rattle.std.proofs.Common.{◌∙◌, refl, sym, subst, List, ℕ}
use Rattle.chess_loop.specs.steps.Sending.{Sent}
use Rattle.chess_collection.proofs.GoingLemmas.{all_flushed, first_broken, first_sent, flush_breaks, head_breaks, part_breaks}
use Rattle.chess_collection.proofs.going.go_over.Goals as goal

-- the text before all broke off
pub returns-in-Err : goal.returns-in-Err
returns-in-Err g c =
    head_breaks g.R.Source.gives g.R.Source.failed (λ n o b u is t. g.H.GameHandler.handles c.args.handler.now n o b u is t) g.H.GameHandler.white g.R.Source.ended g.W.Sink.takes g.W.Sink.failed c.args.head.now c.args.window.now c.args.window.now
    c.args.writer.now c.requires.fresh c.requires.sound refl c.put_text.new.writer
    (first_broken g.W.Sink.takes g.W.Sink.failed c.args.writer.now c.put_text.new.writer _ c.args.head.now c.in-Ok.ensures c.in-Err.ensures)

-- writing what is written of the stretches did
pub returns-then-has_broken : goal.returns-then-has_broken
returns-then-has_broken g c =
    part_breaks g.R.Source.gives g.R.Source.failed (λ n o b u is t. g.H.GameHandler.handles c.args.handler.now n o b u is t) g.H.GameHandler.white g.R.Source.ended g.W.Sink.takes g.W.Sink.failed c.args.head.now c.args.window.now c.fill-ended.new.window
    c.args.writer.now c.put_text.new.page c.fill-ended.new.page c.put_text.new.writer c.fill-ended.new.writer c.fill-ended.result (sym c.has_broken.ensures ∙ c.if-has_broken.true)
    (first_sent g.W.Sink.takes g.W.Sink.failed c.args.writer.now c.put_text.new.writer _ c.put_text.new.page c.args.head.now c.in-Ok.ensures c.in-Ok-put_text.ensures) c.fill-ended.ensures

-- all is written
pub returns-in-Ok-flush : goal.returns-in-Ok-flush
returns-in-Ok-flush g c =
    all_flushed g.R.Source.gives g.R.Source.failed (λ n o b u is t. g.H.GameHandler.handles c.args.handler.now n o b u is t) g.H.GameHandler.white g.R.Source.ended g.W.Sink.takes g.W.Sink.failed c.args.head.now c.args.window.now c.fill-ended.new.window
    c.args.writer.now c.put_text.new.page c.fill-ended.new.page c.put_text.new.writer c.fill-ended.new.writer c.flush.new.writer
    (first_sent g.W.Sink.takes g.W.Sink.failed c.args.writer.now c.put_text.new.writer _ c.put_text.new.page c.args.head.now c.in-Ok.ensures c.in-Ok-put_text.ensures) c.fill-ended.result (sym c.has_broken.ensures ∙ c.if-has_broken.false)
    (subst (λ p. (start : g.row.W.Denot) (text : List ℕ) → Sent g.W.Sink.takes g.W.Sink.failed start text c.fill-ended.new.page c.fill-ended.new.writer → Sent g.W.Sink.takes g.W.Sink.failed start text p c.flush.new.writer) c.in-Ok-flush.ensures.empty c.in-Ok-flush.ensures.flows)
    c.fill-ended.ensures

-- it isn't
pub returns : goal.returns
returns g c =
    flush_breaks g.R.Source.gives g.R.Source.failed (λ n o b u is t. g.H.GameHandler.handles c.args.handler.now n o b u is t) g.H.GameHandler.white g.R.Source.ended g.W.Sink.takes g.W.Sink.failed c.args.head.now c.args.window.now c.fill-ended.new.window
    c.args.writer.now c.put_text.new.page c.fill-ended.new.page c.put_text.new.writer c.fill-ended.new.writer c.flush.new.writer
    (first_sent g.W.Sink.takes g.W.Sink.failed c.args.writer.now c.put_text.new.writer _ c.put_text.new.page c.args.head.now c.in-Ok.ensures c.in-Ok-put_text.ensures) c.fill-ended.result (sym c.has_broken.ensures ∙ c.if-has_broken.false)
    c.in-Err-flush.ensures.flows c.fill-ended.ensures
