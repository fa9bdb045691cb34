use Rattle.std.proofs.Common.{◌∙◌, ◌≤◌, ◌+◌, ◌++◌, ℕ, List, length, drop, refl, sym, ap, subst, arith, inl}
use Rattle.chess_loop.specs.RunEnds.{Broken}
use Rattle.chess_loop.specs.steps.Sending.{Sent}
use Rattle.chess_collection.specs.Windows.{Window}
use Rattle.chess_collection.specs.steps.Going.{BreaksOff, Fills, IsEnough}
use Rattle.chess_collection.proofs.WindowLemmas.{comes_none}
use Rattle.std.specs.Prelude.{Err}
use Rattle.chess_command_line.specs.declared.collection.Failure.TheVariants as by
use Rattle.chess_collection.proofs.GoingLemmas.{comes_few, ends_all, ends_many, ends_short, finished, more_at_hand, more_written, nothing_yet, one_stretch, part_of, part_of_one, some_holds, sound_on, starved}
use Rattle.chess_collection.proofs.going.fill.Goals as goal

-- nothing is read
pub loop-before-init : goal.loop-before-init
loop-before-init g c = record {
  sound = c.requires.sound;
  so_far =
      nothing_yet g.R.Source.gives g.R.Source.failed (λ n o b u is t. g.H.GameHandler.handles c.args.handler.now n o b u is t) g.H.GameHandler.white g.W.Sink.takes g.W.Sink.failed g.R.Source.ended c.args.window.now c.args.page.now c.args.writer.now c.requires.fresh
      c.requires.reads c.requires.sound c.none-totals.result.bytes c.none-totals.result.passed c.none-totals.result.bad c.none-totals.ensures.bytes c.none-totals.ensures.passed c.none-totals.ensures.bad;
}

-- the handler had no memory
pub returns-in-Err : goal.returns-in-Err
returns-in-Err g c =
    subst
    (λ f. Fills (λ n o b u is t. g.H.GameHandler.handles c.args.handler.now n o b u is t) g.W.Sink.takes g.W.Sink.failed g.R.Source.gives g.R.Source.failed g.R.Source.ended g.H.GameHandler.white c.args.window.now c.args.page.now c.args.writer.now c.loop-before.window c.loop-before.page c.loop-before.writer (Err f))
    (sym c.in-Err.ensures.memory)
    (ends_short g.R.Source.gives g.R.Source.failed (λ n o b u is t. g.H.GameHandler.handles c.args.handler.now n o b u is t) g.H.GameHandler.white g.W.Sink.takes g.W.Sink.failed g.R.Source.ended c.args.window.now c.args.page.now c.args.writer.now
    c.loop-before.window c.loop-before.window c.loop-before.page c.loop-before.writer c.loop-before.before c.loop-before.totals.bytes c.loop-before.totals.passed c.loop-before.totals.bad c.loop-before.invariant.so_far
    (starved g.R.Source.gives g.R.Source.failed g.R.Source.ended g.H.GameHandler.white c.loop-before.window c.loop-before.window by.Memory (comes_none g.R.Source.gives g.R.Source.failed c.loop-before.window) c.loop-before.invariant.sound (inl (omega arith)) refl))

-- writing what is on the page broke off
pub returns-in-Err-let_go : goal.returns-in-Err-let_go
returns-in-Err-let_go g c =
    part_of g.R.Source.gives g.R.Source.failed (λ n o b u is t. g.H.GameHandler.handles c.args.handler.now n o b u is t) g.H.GameHandler.white g.W.Sink.takes g.W.Sink.failed g.R.Source.ended c.args.window.now c.args.page.now c.args.writer.now c.loop-before.window c.loop-before.page
    c.loop-before.writer c.let_go.new.writer c.loop-before.before c.loop-before.totals.bytes c.loop-before.totals.passed c.loop-before.totals.bad c.loop-before.invariant.so_far c.in-Err-let_go.ensures

-- there was no memory
pub returns-in-Err-Memory : goal.returns-in-Err-Memory
returns-in-Err-Memory g c =
    ends_short g.R.Source.gives g.R.Source.failed (λ n o b u is t. g.H.GameHandler.handles c.args.handler.now n o b u is t) g.H.GameHandler.white g.W.Sink.takes g.W.Sink.failed g.R.Source.ended c.args.window.now c.args.page.now c.args.writer.now
    c.loop-before.window c.next_handled.new.window c.let_go.new.page c.let_go.new.writer c.loop-before.before c.loop-before.totals.bytes c.loop-before.totals.passed c.loop-before.totals.bad
    (more_written g.R.Source.gives g.R.Source.failed (λ n o b u is t. g.H.GameHandler.handles c.args.handler.now n o b u is t) g.H.GameHandler.white g.W.Sink.takes g.W.Sink.failed g.R.Source.ended c.args.window.now c.args.page.now c.args.writer.now c.loop-before.window c.loop-before.page
    c.let_go.new.page c.loop-before.writer c.let_go.new.writer c.loop-before.before c.loop-before.totals.bytes c.loop-before.totals.passed c.loop-before.totals.bad c.loop-before.invariant.so_far c.in-Ok-let_go.ensures)
    (subst (λ f. BreaksOff g.R.Source.gives g.R.Source.failed g.R.Source.ended g.H.GameHandler.white c.loop-before.window c.next_handled.new.window f) c.in-Err-Memory.field-0-is c.in-Err-Memory.ensures.broken)

-- no write is made there
pub returns-in-Err-Write : goal.returns-in-Err-Write
returns-in-Err-Write g c = absurd (subst (λ f. BreaksOff g.R.Source.gives g.R.Source.failed g.R.Source.ended g.H.GameHandler.white c.loop-before.window c.next_handled.new.window f) c.in-Err-Write.field-0-is c.in-Err-Write.ensures.broken)

-- after a failed read: stretches of the bytes at hand
pub returns-in-Err-Read : goal.returns-in-Err-Read
returns-in-Err-Read g c =
    finished g.R.Source.gives g.R.Source.failed (λ n o b u is t. g.H.GameHandler.handles c.args.handler.now n o b u is t) g.H.GameHandler.white g.W.Sink.takes g.W.Sink.failed g.R.Source.ended c.args.window.now c.args.page.now c.args.writer.now
    c.loop-before.window c.next_handled.new.window c.finish.new.window c.let_go.new.page c.finish.new.page c.let_go.new.writer c.finish.new.writer c.loop-before.before c.loop-before.totals.bytes c.loop-before.totals.passed c.loop-before.totals.bad
    (more_written g.R.Source.gives g.R.Source.failed (λ n o b u is t. g.H.GameHandler.handles c.args.handler.now n o b u is t) g.H.GameHandler.white g.W.Sink.takes g.W.Sink.failed g.R.Source.ended c.args.window.now c.args.page.now c.args.writer.now c.loop-before.window c.loop-before.page
    c.let_go.new.page c.loop-before.writer c.let_go.new.writer c.loop-before.before c.loop-before.totals.bytes c.loop-before.totals.passed c.loop-before.totals.bad c.loop-before.invariant.so_far c.in-Ok-let_go.ensures)
    (subst (λ f. BreaksOff g.R.Source.gives g.R.Source.failed g.R.Source.ended g.H.GameHandler.white c.loop-before.window c.next_handled.new.window f) c.in-Err-Read.field-0-is c.in-Err-Read.ensures.broken) c.finish.ensures.source c.finish.result c.finish.ensures.finishes

-- white space is left
pub returns-in-Ok-None : goal.returns-in-Ok-None
returns-in-Ok-None g c =
    let end = c.in-Ok-None.ensures.end c.in-Ok-None.field-0-is in
    ends_all g.R.Source.gives g.R.Source.failed (λ n o b u is t. g.H.GameHandler.handles c.args.handler.now n o b u is t) g.H.GameHandler.white g.W.Sink.takes g.W.Sink.failed g.R.Source.ended c.args.window.now c.args.page.now c.args.writer.now
    c.next_handled.new.window c.let_go.new.page c.let_go.new.writer c.loop-before.before c.loop-before.totals.bytes c.loop-before.totals.passed c.loop-before.totals.bad c.with_rest.result
    (more_at_hand g.R.Source.gives g.R.Source.failed (λ n o b u is t. g.H.GameHandler.handles c.args.handler.now n o b u is t) g.H.GameHandler.white g.W.Sink.takes g.W.Sink.failed g.R.Source.ended c.args.window.now c.args.page.now c.args.writer.now c.loop-before.window
    c.next_handled.new.window c.let_go.new.page c.let_go.new.writer c.loop-before.before c.loop-before.totals.bytes c.loop-before.totals.passed c.loop-before.totals.bad
    (more_written g.R.Source.gives g.R.Source.failed (λ n o b u is t. g.H.GameHandler.handles c.args.handler.now n o b u is t) g.H.GameHandler.white g.W.Sink.takes g.W.Sink.failed g.R.Source.ended c.args.window.now c.args.page.now c.args.writer.now c.loop-before.window c.loop-before.page
    c.let_go.new.page c.loop-before.writer c.let_go.new.writer c.loop-before.before c.loop-before.totals.bytes c.loop-before.totals.passed c.loop-before.totals.bad c.loop-before.invariant.so_far c.in-Ok-let_go.ensures)
    (comes_few g.R.Source.gives g.R.Source.failed g.R.Source.ended g.H.GameHandler.white c.loop-before.window c.next_handled.new.window c.in-Ok-None.ensures.came c.in-Ok-None.ensures.sound c.in-Ok-None.ensures.few))
    end.0 (c.in-Ok-None.ensures.sound.1 end.0) end.1 c.with_rest.ensures.games (c.with_rest.ensures.bytes ∙ ap (λ (t : List ℕ). c.loop-before.totals.bytes + length t) c.unread-in-Ok-None.ensures)
    c.with_rest.ensures.passed c.with_rest.ensures.bad

-- writing what is written of a stretch broke off
pub returns-in-Err-put_text : goal.returns-in-Err-put_text
returns-in-Err-put_text g c =
    let u = c.next_handled.new.window in
    let h = c.in-Ok-Some.handled in
    let v : Window g.row.R.Denot = record { source = u.source; bytes = drop h.used u.bytes; has_ended = u.has_ended; seen = u.seen; reads = u.reads } in
    part_of_one g.R.Source.gives g.R.Source.failed (λ n o b u is t. g.H.GameHandler.handles c.args.handler.now n o b u is t) g.H.GameHandler.white g.W.Sink.takes g.W.Sink.failed g.R.Source.ended c.args.window.now c.args.page.now c.args.writer.now u v c.let_go.new.page
    c.let_go.new.writer c.loop-before.before c.loop-before.totals.bytes c.loop-before.totals.passed c.loop-before.totals.bad h.used h.fate h.text.items
    (more_at_hand g.R.Source.gives g.R.Source.failed (λ n o b u is t. g.H.GameHandler.handles c.args.handler.now n o b u is t) g.H.GameHandler.white g.W.Sink.takes g.W.Sink.failed g.R.Source.ended c.args.window.now c.args.page.now c.args.writer.now c.loop-before.window u
    c.let_go.new.page c.let_go.new.writer c.loop-before.before c.loop-before.totals.bytes c.loop-before.totals.passed c.loop-before.totals.bad
    (more_written g.R.Source.gives g.R.Source.failed (λ n o b u is t. g.H.GameHandler.handles c.args.handler.now n o b u is t) g.H.GameHandler.white g.W.Sink.takes g.W.Sink.failed g.R.Source.ended c.args.window.now c.args.page.now c.args.writer.now c.loop-before.window c.loop-before.page
    c.let_go.new.page c.loop-before.writer c.let_go.new.writer c.loop-before.before c.loop-before.totals.bytes c.loop-before.totals.passed c.loop-before.totals.bad c.loop-before.invariant.so_far c.in-Ok-let_go.ensures)
    (comes_few g.R.Source.gives g.R.Source.failed g.R.Source.ended g.H.GameHandler.white c.loop-before.window c.next_handled.new.window c.in-Ok-Some.ensures.came c.in-Ok-Some.ensures.sound c.in-Ok-Some.ensures.few))
    (some_holds (λ x. IsEnough u x.used x.fate) c.in-Ok-Some.field-0 h c.in-Ok-Some.field-0-is c.in-Ok-Some.ensures.enough) (some_holds (λ x. x.used ≤ length u.bytes) c.in-Ok-Some.field-0 h c.in-Ok-Some.field-0-is c.in-Ok-Some.ensures.fits)
    (some_holds (λ x. g.H.GameHandler.handles c.args.handler.now (c.loop-before.before + 1) c.loop-before.totals.bytes u.bytes x.used x.fate x.text.items) c.in-Ok-Some.field-0 h c.in-Ok-Some.field-0-is c.in-Ok-Some.ensures.handled) refl refl refl refl c.put_text.new.writer
    (subst (λ more. (start : g.row.W.Denot) (t : List ℕ) → Sent g.W.Sink.takes g.W.Sink.failed start t c.let_go.new.page c.let_go.new.writer → Broken g.W.Sink.takes g.W.Sink.failed start (t ++ more) c.put_text.new.writer) c.as_slice.ensures.value c.in-Err-put_text.ensures)

-- a stretch more
pub loop-before-preserved : goal.loop-before-preserved
loop-before-preserved g c =
    let u = c.next_handled.new.window in
    let h = c.in-Ok-Some.handled in
    let v = c.use_first.new.self in
    record {
      sound = sound_on g.R.Source.ended u v c.use_first.ensures.source c.use_first.ensures.ended c.use_first.ensures.seen c.in-Ok-Some.ensures.sound;
      so_far =
          one_stretch g.R.Source.gives g.R.Source.failed (λ n o b u is t. g.H.GameHandler.handles c.args.handler.now n o b u is t) g.H.GameHandler.white g.W.Sink.takes g.W.Sink.failed g.R.Source.ended c.args.window.now c.args.page.now c.args.writer.now u v c.let_go.new.page
          c.let_go.new.writer c.loop-before.before c.loop-before.totals.bytes c.loop-before.totals.passed c.loop-before.totals.bad h.used h.fate h.text.items
          (more_at_hand g.R.Source.gives g.R.Source.failed (λ n o b u is t. g.H.GameHandler.handles c.args.handler.now n o b u is t) g.H.GameHandler.white g.W.Sink.takes g.W.Sink.failed g.R.Source.ended c.args.window.now c.args.page.now c.args.writer.now c.loop-before.window u
          c.let_go.new.page c.let_go.new.writer c.loop-before.before c.loop-before.totals.bytes c.loop-before.totals.passed c.loop-before.totals.bad
          (more_written g.R.Source.gives g.R.Source.failed (λ n o b u is t. g.H.GameHandler.handles c.args.handler.now n o b u is t) g.H.GameHandler.white g.W.Sink.takes g.W.Sink.failed g.R.Source.ended c.args.window.now c.args.page.now c.args.writer.now c.loop-before.window c.loop-before.page
          c.let_go.new.page c.loop-before.writer c.let_go.new.writer c.loop-before.before c.loop-before.totals.bytes c.loop-before.totals.passed c.loop-before.totals.bad c.loop-before.invariant.so_far c.in-Ok-let_go.ensures)
          (comes_few g.R.Source.gives g.R.Source.failed g.R.Source.ended g.H.GameHandler.white c.loop-before.window c.next_handled.new.window c.in-Ok-Some.ensures.came c.in-Ok-Some.ensures.sound c.in-Ok-Some.ensures.few))
          (some_holds (λ x. IsEnough u x.used x.fate) c.in-Ok-Some.field-0 h c.in-Ok-Some.field-0-is c.in-Ok-Some.ensures.enough) (some_holds (λ x. x.used ≤ length u.bytes) c.in-Ok-Some.field-0 h c.in-Ok-Some.field-0-is c.in-Ok-Some.ensures.fits)
          (some_holds (λ x. g.H.GameHandler.handles c.args.handler.now (c.loop-before.before + 1) c.loop-before.totals.bytes u.bytes x.used x.fate x.text.items) c.in-Ok-Some.field-0 h c.in-Ok-Some.field-0-is c.in-Ok-Some.ensures.handled) c.use_first.ensures.bytes c.use_first.ensures.source c.use_first.ensures.ended c.use_first.ensures.reads c.put_text.new.page c.put_text.new.writer c.add.new.self.bytes
          c.add.new.self.passed c.add.new.self.bad
          (subst (λ more. (start : g.row.W.Denot) (t : List ℕ) → Sent g.W.Sink.takes g.W.Sink.failed start t c.let_go.new.page c.let_go.new.writer → Sent g.W.Sink.takes g.W.Sink.failed start (t ++ more) c.put_text.new.page c.put_text.new.writer) c.as_slice.ensures.value c.in-Ok-put_text.ensures)
          c.add.ensures.bytes c.add.ensures.passed c.add.ensures.bad;
    }

-- there were as many as may be
pub returns : goal.returns
returns g c =
    ends_many g.R.Source.gives g.R.Source.failed (λ n o b u is t. g.H.GameHandler.handles c.args.handler.now n o b u is t) g.H.GameHandler.white g.W.Sink.takes g.W.Sink.failed g.R.Source.ended c.args.window.now c.args.page.now c.args.writer.now
    c.loop-before.window c.loop-before.page c.loop-before.writer c.loop-before.before c.loop-before.totals.bytes c.loop-before.totals.passed c.loop-before.totals.bad (let l = c.loop-before-test.false in let m = c.loop-before.auto in omega (arith, l, m)) c.loop-before.invariant.so_far
