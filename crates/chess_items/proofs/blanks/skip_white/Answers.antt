use Rattle.std.proofs.Common.{Bool, List, ℕ, arith, subst}
use Rattle.chess_items.specs.steps.Skipping.{BeginsHidden}
use Rattle.chess_items.proofs.BlankLemmas.{empty_or, line_broken, no_larger_there, skipped, skipping_broken, skipping_falls, skipping_line, skipping_on, skipping_start, skipping_stopped, skipping_stops}
use Rattle.chess_items.proofs.blanks.skip_white.Goals as goal

pub loop-fault-init : goal.loop-fault-init
loop-fault-init g c = skipping_start g.X.Text.comes g.X.Text.at_hand g.X.Text.all g.X.Text.sound g.X.Text.reads c.args.place c.args.text.now c.requires

pub take_one-requires : goal.take_one-requires
take_one-requires g c = c.loop-fault.invariant.sound_still

pub returns-in-Err-clause-broken : goal.returns-in-Err-clause-broken
returns-in-Err-clause-broken g c = skipping_stopped g.X.Text.comes g.X.Text.at_hand g.X.Text.all g.X.Text.sound g.X.Text.reads c.args.place c.args.text.now c.loop-fault.place c.loop-fault.text c.loop-fault.invariant g.X.Text.breaks c.take_one.new.text c.in-Err.fault c.in-Err.ensures.broken

pub loop-fault-smaller-in-Ok-On : goal.loop-fault-smaller-in-Ok-On
loop-fault-smaller-in-Ok-On g c = (let f = skipping_falls g.X.Text.comes g.X.Text.at_hand g.X.Text.all g.X.Text.sound g.X.Text.reads c.loop-fault.place c.in-Ok-On.next c.loop-fault.text c.take_one.new.text c.in-Ok-On.field-0-1 c.in-Ok-On.field-0-2 _ c.take_one.new.taker (rw c.in-Ok-On.field-0-is at c.in-Ok-On.ensures.steps) in omega (arith, f))

pub loop-fault-preserved-in-Ok-On : goal.loop-fault-preserved-in-Ok-On
loop-fault-preserved-in-Ok-On g c =
    skipping_on g.X.Text.comes g.X.Text.at_hand g.X.Text.all g.X.Text.sound g.X.Text.reads c.args.place c.args.text.now c.loop-fault.place c.in-Ok-On.next c.loop-fault.text c.take_one.new.text c.in-Ok-On.field-0-1 c.in-Ok-On.field-0-2 _ c.take_one.new.taker c.loop-fault.invariant (rw c.in-Ok-On.field-0-is at c.in-Ok-On.ensures.steps)

pub returns-then-not-begins_hidden-clause-skips : goal.returns-then-not-begins_hidden-clause-skips
returns-then-not-begins_hidden-clause-skips g c =
    let begins = subst (λ (x : List ℕ). BeginsHidden c.loop-fault.place x c.begins_hidden.result) c.unread.ensures c.begins_hidden.ensures in (
      skipped g.X.Text.comes g.X.Text.at_hand g.X.Text.all g.X.Text.sound g.X.Text.reads c.args.place c.args.text.now c.loop-fault.place c.loop-fault.text c.take_one.new.text c.in-Ok-Stops.field-0-0 _ c.take_one.new.taker (rw c.in-Ok-Stops.field-0-is at c.in-Ok-Stops.ensures.steps) c.loop-fault.invariant
          (subst (λ (b : Bool). BeginsHidden c.loop-fault.place (g.X.Text.at_hand c.take_one.new.text) b) c.if-not-begins_hidden.true begins),
      empty_or (g.X.Text.at_hand c.take_one.new.text) c.unread-then-not-begins_hidden.result.now c.is_empty.result c.unread-then-not-begins_hidden.ensures c.is_empty.ensures,
    )

pub returns-in-Err-skip_line-clause-broken : goal.returns-in-Err-skip_line-clause-broken
returns-in-Err-skip_line-clause-broken g c =
    let s = skipping_stops g.X.Text.comes g.X.Text.at_hand g.X.Text.all g.X.Text.sound g.X.Text.reads c.args.place c.args.text.now c.loop-fault.place c.loop-fault.text c.take_one.new.text c.in-Ok-Stops.field-0-0 _ c.take_one.new.taker (rw c.in-Ok-Stops.field-0-is at c.in-Ok-Stops.ensures.steps) c.loop-fault.invariant in
    let begins = subst (λ (x : List ℕ). BeginsHidden c.loop-fault.place x c.begins_hidden.result) c.unread.ensures c.begins_hidden.ensures in
    skipping_broken g.X.Text.comes g.X.Text.at_hand g.X.Text.all g.X.Text.sound g.X.Text.reads c.args.place c.args.text.now c.loop-fault.place c.take_one.new.text s g.X.Text.breaks c.skip_line.new.text c.in-Err-skip_line.fault
    (line_broken g.X.Text.comes g.X.Text.at_hand g.X.Text.all g.X.Text.sound g.X.Text.reads g.X.Text.breaks c.loop-fault.place c.take_one.new.text c.skip_line.new.text c.in-Err-skip_line.fault
    (subst (λ (b : Bool). BeginsHidden c.loop-fault.place (g.X.Text.at_hand c.take_one.new.text) b) c.if-not-begins_hidden.false begins) c.in-Err-skip_line.ensures.broken)

pub loop-fault-smaller : goal.loop-fault-smaller
loop-fault-smaller g c =
    let n = no_larger_there g.X.Text.comes g.X.Text.at_hand g.X.Text.all g.X.Text.sound g.X.Text.reads c.args.place c.args.text.now c.loop-fault.place c.loop-fault.text c.take_one.new.text c.in-Ok-Stops.field-0-0 _ c.take_one.new.taker (rw c.in-Ok-Stops.field-0-is at c.in-Ok-Stops.ensures.steps) in
    let h = c.in_default.ensures.hides in
    omega (arith, n, h.smaller)

pub loop-fault-preserved : goal.loop-fault-preserved
loop-fault-preserved g c =
    let s = skipping_stops g.X.Text.comes g.X.Text.at_hand g.X.Text.all g.X.Text.sound g.X.Text.reads c.args.place c.args.text.now c.loop-fault.place c.loop-fault.text c.take_one.new.text c.in-Ok-Stops.field-0-0 _ c.take_one.new.taker (rw c.in-Ok-Stops.field-0-is at c.in-Ok-Stops.ensures.steps) c.loop-fault.invariant in
    let begins = subst (λ (x : List ℕ). BeginsHidden c.loop-fault.place x c.begins_hidden.result) c.unread.ensures c.begins_hidden.ensures in
    skipping_line g.X.Text.comes g.X.Text.at_hand g.X.Text.all g.X.Text.sound g.X.Text.reads c.args.place c.args.text.now c.loop-fault.place c.take_one.new.text c.skip_line.new.text c.after-place.result s
    (subst (λ (b : Bool). BeginsHidden c.loop-fault.place (g.X.Text.at_hand c.take_one.new.text) b) c.if-not-begins_hidden.false begins) c.in_default.ensures.hides c.after-place.ensures
