use Rattle.std.proofs.Common.{◌≤◌, ◌+◌, ◌++◌, ◌∙◌, List, ℕ, length, arith, ap, sym, subst, refl}
use Rattle.std.specs.Prelude.{IfSome}
use Rattle.chess_loop.specs.RunEnds.{Broken}
use Rattle.chess_loop.specs.steps.Sending.{Sent}
use Rattle.chess_collection.specs.steps.Going.{Finishes}
use Rattle.chess_collection.proofs.GoingLemmas.{late_broken, late_many, late_more, late_short, late_white, late_whole, some_holds}
use Rattle.chess_collection.proofs.going.finish.Goals as goal

-- there was no memory
pub returns-in-Err-clause-finishes : goal.returns-in-Err-clause-finishes
returns-in-Err-clause-finishes g c =
    subst
    (λ f. Finishes (λ n o b u is t. g.H.GameHandler.handles c.args.handler.now n o b u is t) g.W.Sink.takes g.W.Sink.failed g.H.GameHandler.white c.args.before c.args.offset c.args.window.now.bytes c.args.page.now c.args.writer.now c.loop-done.page c.loop-done.writer f)
    (sym c.in-Err.ensures.memory)
    (late_short (λ n o b u is t. g.H.GameHandler.handles c.args.handler.now n o b u is t) g.W.Sink.takes g.W.Sink.failed g.H.GameHandler.white c.args.before c.args.offset c.args.window.now.bytes c.args.page.now c.args.writer.now c.loop-done.done c.loop-done.offset c.loop-done.window.bytes c.loop-done.page c.loop-done.writer c.loop-done.invariant.so_far)

-- white is left
pub returns-in-Ok-None-clause-finishes : goal.returns-in-Ok-None-clause-finishes
returns-in-Ok-None-clause-finishes g c =
    late_white (λ n o b u is t. g.H.GameHandler.handles c.args.handler.now n o b u is t) g.W.Sink.takes g.W.Sink.failed g.H.GameHandler.white c.args.before c.args.offset c.args.window.now.bytes c.args.page.now c.args.writer.now c.loop-done.done c.loop-done.offset c.loop-done.window.bytes c.loop-done.page c.loop-done.writer c.loop-done.invariant.so_far
    (subst g.H.GameHandler.white c.unread.ensures (c.in-Ok-None.ensures.white c.in-Ok-None.field-0-is))

-- a stretch reaches the last byte
pub returns-then-used-unread-clause-finishes : goal.returns-then-used-unread-clause-finishes
returns-then-used-unread-clause-finishes g c =
    let h = c.in-Ok-Some.handled in
    late_whole (λ n o b u is t. g.H.GameHandler.handles c.args.handler.now n o b u is t) g.W.Sink.takes g.W.Sink.failed g.H.GameHandler.white c.args.before c.args.offset c.args.window.now.bytes c.args.page.now c.args.writer.now c.loop-done.done c.loop-done.offset c.loop-done.window.bytes c.loop-done.page c.loop-done.writer c.loop-done.invariant.so_far
    h.used h.fate h.text.items (some_holds (λ x. x.used ≤ length c.loop-done.window.bytes) c.in-Ok-Some.field-0 h c.in-Ok-Some.field-0-is (subst (λ (b : List ℕ). IfSome c.in-Ok-Some.field-0 (λ x. x.used ≤ length b)) c.unread.ensures c.in-Ok-Some.ensures.fits))
    (some_holds (λ x. g.H.GameHandler.handles c.args.handler.now (c.loop-done.done + 1) c.loop-done.offset c.loop-done.window.bytes x.used x.fate x.text.items) c.in-Ok-Some.field-0 h c.in-Ok-Some.field-0-is (subst (λ (b : List ℕ). IfSome c.in-Ok-Some.field-0 (λ x. g.H.GameHandler.handles c.args.handler.now (c.loop-done.done + 1) c.loop-done.offset b x.used x.fate x.text.items)) c.unread.ensures c.in-Ok-Some.ensures.handled))
    (let n = c.if-used-unread.true in let m = ap length c.unread-in-loop-done.ensures in omega (arith, n, m))

-- writing what is written of a stretch broke off
pub returns-in-Err-put_text-clause-finishes : goal.returns-in-Err-put_text-clause-finishes
returns-in-Err-put_text-clause-finishes g c =
    let h = c.in-Ok-Some.handled in
    late_broken (λ n o b u is t. g.H.GameHandler.handles c.args.handler.now n o b u is t) g.W.Sink.takes g.W.Sink.failed g.H.GameHandler.white c.args.before c.args.offset c.args.window.now.bytes c.args.page.now c.args.writer.now c.loop-done.done c.loop-done.offset c.loop-done.window.bytes c.loop-done.page c.loop-done.writer c.loop-done.invariant.so_far
    h.used h.fate h.text.items (some_holds (λ x. x.used ≤ length c.loop-done.window.bytes) c.in-Ok-Some.field-0 h c.in-Ok-Some.field-0-is (subst (λ (b : List ℕ). IfSome c.in-Ok-Some.field-0 (λ x. x.used ≤ length b)) c.unread.ensures c.in-Ok-Some.ensures.fits))
    (some_holds (λ x. g.H.GameHandler.handles c.args.handler.now (c.loop-done.done + 1) c.loop-done.offset c.loop-done.window.bytes x.used x.fate x.text.items) c.in-Ok-Some.field-0 h c.in-Ok-Some.field-0-is (subst (λ (b : List ℕ). IfSome c.in-Ok-Some.field-0 (λ x. g.H.GameHandler.handles c.args.handler.now (c.loop-done.done + 1) c.loop-done.offset b x.used x.fate x.text.items)) c.unread.ensures c.in-Ok-Some.ensures.handled))
    (let n = c.if-used-unread.false in let m = ap length c.unread-in-loop-done.ensures in omega (arith, n, m)) c.put_text.new.writer
    (subst (λ more. (start : g.row.W.Denot) (t : List ℕ) → Sent g.W.Sink.takes g.W.Sink.failed start t c.loop-done.page c.loop-done.writer → Broken g.W.Sink.takes g.W.Sink.failed start (t ++ more) c.put_text.new.writer) c.as_slice.ensures.value c.in-Err-put_text.ensures)
    c.put_text.new.page

-- a stretch more
pub loop-done-preserved : goal.loop-done-preserved
loop-done-preserved g c =
    let h = c.in-Ok-Some.handled in
    record {
      source = c.use_first.ensures.source ∙ c.loop-done.invariant.source;
      so_far =
          late_more (λ n o b u is t. g.H.GameHandler.handles c.args.handler.now n o b u is t) g.W.Sink.takes g.W.Sink.failed g.H.GameHandler.white c.args.before c.args.offset c.args.window.now.bytes c.args.page.now c.args.writer.now c.loop-done.done c.loop-done.offset c.loop-done.window.bytes c.loop-done.page c.loop-done.writer c.loop-done.invariant.so_far
          h.used h.fate h.text.items (some_holds (λ x. x.used ≤ length c.loop-done.window.bytes) c.in-Ok-Some.field-0 h c.in-Ok-Some.field-0-is (subst (λ (b : List ℕ). IfSome c.in-Ok-Some.field-0 (λ x. x.used ≤ length b)) c.unread.ensures c.in-Ok-Some.ensures.fits))
          (some_holds (λ x. g.H.GameHandler.handles c.args.handler.now (c.loop-done.done + 1) c.loop-done.offset c.loop-done.window.bytes x.used x.fate x.text.items) c.in-Ok-Some.field-0 h c.in-Ok-Some.field-0-is (subst (λ (b : List ℕ). IfSome c.in-Ok-Some.field-0 (λ x. g.H.GameHandler.handles c.args.handler.now (c.loop-done.done + 1) c.loop-done.offset b x.used x.fate x.text.items)) c.unread.ensures c.in-Ok-Some.ensures.handled))
          (let n = c.if-used-unread.false in let m = ap length c.unread-in-loop-done.ensures in omega (arith, n, m)) c.use_first.new.self.bytes c.put_text.new.page c.put_text.new.writer _ c.use_first.ensures.bytes refl
          (subst (λ more. (start : g.row.W.Denot) (t : List ℕ) → Sent g.W.Sink.takes g.W.Sink.failed start t c.loop-done.page c.loop-done.writer → Sent g.W.Sink.takes g.W.Sink.failed start (t ++ more) c.put_text.new.page c.put_text.new.writer) c.as_slice.ensures.value c.in-Ok.ensures);
    }

-- there were as many as may be
pub returns-clause-finishes : goal.returns-clause-finishes
returns-clause-finishes g c =
    late_many (λ n o b u is t. g.H.GameHandler.handles c.args.handler.now n o b u is t) g.W.Sink.takes g.W.Sink.failed g.H.GameHandler.white c.args.before c.args.offset c.args.window.now.bytes c.args.page.now c.args.writer.now c.loop-done.done c.loop-done.offset c.loop-done.window.bytes c.loop-done.page c.loop-done.writer c.loop-done.invariant.so_far
    (let n = c.loop-done-test.false in let m = c.loop-done.auto.done-end in omega (arith, n, m))
