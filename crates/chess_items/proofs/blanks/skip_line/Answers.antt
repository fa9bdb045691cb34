use Rattle.std.proofs.Common.{Bool, arith, Ok, subst}
use Rattle.chess_items.specs.steps.Texts.{Refills}
use Rattle.chess_items.proofs.BlankLemmas.{hides_all, hides_at, hiding_broken, hiding_falls, hiding_more, hiding_on, hiding_start, left_len, line_stops, now_smaller}
use Rattle.chess_items.proofs.ReadLemmas.{empty_is}
use Rattle.chess_items.proofs.blanks.skip_line.Goals as goal

pub loop-line-init : goal.loop-line-init
loop-line-init g c = hiding_start g.X.Text.comes g.X.Text.at_hand g.X.Text.all g.X.Text.sound g.X.Text.reads c.args.text.now c.requires.sound

pub keep-requires-clause-sound : goal.keep-requires-clause-sound
keep-requires-clause-sound g c = c.loop-line.invariant.sound_still

pub returns-then-left-gt0-clause-hides : goal.returns-then-left-gt0-clause-hides
returns-then-left-gt0-clause-hides g c =
    let h = c.loop-line.invariant in
    let on = hiding_on g.X.Text.comes g.X.Text.at_hand g.X.Text.all g.X.Text.sound g.X.Text.reads c.args.text.now c.loop-line.text h c.unread.result.now c.unread-in-loop-line.result.now c.unread.ensures c.unread-in-loop-line.ensures c.run_len-line.result c.run_len-line.ensures.run c.keep.new.self c.keep.ensures in
    let stops = line_stops g.X.Text.comes g.X.Text.at_hand g.X.Text.all g.X.Text.sound g.X.Text.reads c.args.text.now c.loop-line.text h c.unread.result.now c.unread-in-loop-line.result.now c.unread.ensures c.unread-in-loop-line.ensures c.run_len-line.result c.run_len-line.ensures.run c.keep.new.self c.keep.ensures in
    let len = left_len g.X.Text.comes g.X.Text.at_hand g.X.Text.all g.X.Text.sound g.X.Text.reads c.args.text.now c.loop-line.text h c.unread.result.now c.unread-in-loop-line.result.now c.unread.ensures c.unread-in-loop-line.ensures c.run_len-line.result c.run_len-line.ensures.run c.keep.new.self c.keep.ensures in
    hides_at g.X.Text.comes g.X.Text.at_hand g.X.Text.all g.X.Text.sound g.X.Text.reads c.args.text.now c.keep.new.self c.requires.begins.0 c.requires.begins.1 on stops (omega (arith, len, c.if-left-gt0.true))

pub returns-in-Err-clause-broken : goal.returns-in-Err-clause-broken
returns-in-Err-clause-broken g c =
    let on = hiding_on g.X.Text.comes g.X.Text.at_hand g.X.Text.all g.X.Text.sound g.X.Text.reads c.args.text.now c.loop-line.text c.loop-line.invariant c.unread.result.now c.unread-in-loop-line.result.now c.unread.ensures c.unread-in-loop-line.ensures c.run_len-line.result c.run_len-line.ensures.run c.keep.new.self c.keep.ensures in
    let len = left_len g.X.Text.comes g.X.Text.at_hand g.X.Text.all g.X.Text.sound g.X.Text.reads c.args.text.now c.loop-line.text c.loop-line.invariant c.unread.result.now c.unread-in-loop-line.result.now c.unread.ensures c.unread-in-loop-line.ensures c.run_len-line.result c.run_len-line.ensures.run c.keep.new.self c.keep.ensures in
    let none = empty_is (g.X.Text.at_hand c.keep.new.self) (omega (arith, len, c.if-left-gt0.false)) in
    hiding_broken g.X.Text.comes g.X.Text.at_hand g.X.Text.all g.X.Text.sound g.X.Text.reads c.args.text.now c.keep.new.self on none g.X.Text.breaks c.refill.new.self c.in-Err.fault c.in-Err.ensures.broken

pub loop-line-smaller : goal.loop-line-smaller
loop-line-smaller g c =
    let h = c.loop-line.invariant in
    let on = hiding_on g.X.Text.comes g.X.Text.at_hand g.X.Text.all g.X.Text.sound g.X.Text.reads c.args.text.now c.loop-line.text h c.unread.result.now c.unread-in-loop-line.result.now c.unread.ensures c.unread-in-loop-line.ensures c.run_len-line.result c.run_len-line.ensures.run c.keep.new.self c.keep.ensures in
    let len = left_len g.X.Text.comes g.X.Text.at_hand g.X.Text.all g.X.Text.sound g.X.Text.reads c.args.text.now c.loop-line.text h c.unread.result.now c.unread-in-loop-line.result.now c.unread.ensures c.unread-in-loop-line.ensures c.run_len-line.result c.run_len-line.ensures.run c.keep.new.self c.keep.ensures in
    let none = empty_is (g.X.Text.at_hand c.keep.new.self) (omega (arith, len, c.if-left-gt0.false)) in
    let falls = hiding_falls g.X.Text.comes g.X.Text.at_hand g.X.Text.all g.X.Text.sound g.X.Text.reads c.args.text.now c.keep.new.self c.refill.new.self on none (subst (λ (b : Bool). Refills {X = g.row.X.Denot} g.X.Text.comes g.X.Text.at_hand g.X.Text.all g.X.Text.sound g.X.Text.reads c.keep.new.self c.refill.new.self (Ok b)) c.in-Ok-true.field-0-test c.in-Ok-true.ensures.refills) in
    let no_larger = now_smaller g.X.Text.comes g.X.Text.at_hand g.X.Text.all g.X.Text.sound g.X.Text.reads c.args.text.now c.loop-line.text h c.unread.result.now c.unread-in-loop-line.result.now c.unread.ensures c.unread-in-loop-line.ensures c.run_len-line.result c.run_len-line.ensures.run c.keep.new.self c.keep.ensures in
    omega (arith, falls, no_larger)

pub loop-line-preserved : goal.loop-line-preserved
loop-line-preserved g c =
    let h = c.loop-line.invariant in
    let on = hiding_on g.X.Text.comes g.X.Text.at_hand g.X.Text.all g.X.Text.sound g.X.Text.reads c.args.text.now c.loop-line.text h c.unread.result.now c.unread-in-loop-line.result.now c.unread.ensures c.unread-in-loop-line.ensures c.run_len-line.result c.run_len-line.ensures.run c.keep.new.self c.keep.ensures in
    let len = left_len g.X.Text.comes g.X.Text.at_hand g.X.Text.all g.X.Text.sound g.X.Text.reads c.args.text.now c.loop-line.text h c.unread.result.now c.unread-in-loop-line.result.now c.unread.ensures c.unread-in-loop-line.ensures c.run_len-line.result c.run_len-line.ensures.run c.keep.new.self c.keep.ensures in
    let none = empty_is (g.X.Text.at_hand c.keep.new.self) (omega (arith, len, c.if-left-gt0.false)) in
    hiding_more g.X.Text.comes g.X.Text.at_hand g.X.Text.all g.X.Text.sound g.X.Text.reads c.args.text.now c.keep.new.self c.refill.new.self on none (subst (λ (b : Bool). Refills {X = g.row.X.Denot} g.X.Text.comes g.X.Text.at_hand g.X.Text.all g.X.Text.sound g.X.Text.reads c.keep.new.self c.refill.new.self (Ok b)) c.in-Ok-true.field-0-test c.in-Ok-true.ensures.refills)

pub returns-in-Ok-false-clause-hides : goal.returns-in-Ok-false-clause-hides
returns-in-Ok-false-clause-hides g c =
    let h = c.loop-line.invariant in
    let on = hiding_on g.X.Text.comes g.X.Text.at_hand g.X.Text.all g.X.Text.sound g.X.Text.reads c.args.text.now c.loop-line.text h c.unread.result.now c.unread-in-loop-line.result.now c.unread.ensures c.unread-in-loop-line.ensures c.run_len-line.result c.run_len-line.ensures.run c.keep.new.self c.keep.ensures in
    let len = left_len g.X.Text.comes g.X.Text.at_hand g.X.Text.all g.X.Text.sound g.X.Text.reads c.args.text.now c.loop-line.text h c.unread.result.now c.unread-in-loop-line.result.now c.unread.ensures c.unread-in-loop-line.ensures c.run_len-line.result c.run_len-line.ensures.run c.keep.new.self c.keep.ensures in
    let none = empty_is (g.X.Text.at_hand c.keep.new.self) (omega (arith, len, c.if-left-gt0.false)) in
    hides_all g.X.Text.comes g.X.Text.at_hand g.X.Text.all g.X.Text.sound g.X.Text.reads c.args.text.now c.keep.new.self c.refill.new.self c.requires.begins.0 c.requires.begins.1 on none (subst (λ (b : Bool). Refills {X = g.row.X.Denot} g.X.Text.comes g.X.Text.at_hand g.X.Text.all g.X.Text.sound g.X.Text.reads c.keep.new.self c.refill.new.self (Ok b)) c.in-Ok-false.field-0-test c.in-Ok-false.ensures.refills)
