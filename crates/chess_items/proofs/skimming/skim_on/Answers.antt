use Rattle.std.proofs.Common.{◌≡◌, ◌-◌, true}
use Rattle.chess_items.specs.Abandoned.{UsesAllIn}
use Rattle.chess_items.specs.steps.Skimming.{Onward}
use Rattle.chess_items.specs.steps.Skipping.{MaySkip}
use Rattle.chess_items.proofs.SkimLemmas.{if_breaks, if_ends, onward_more, onward_white, sound_stops, sound_white, onward_stops, skim_broken, skim_more, skim_part, skimmed_at, sound_on, white_in_part, within_on}
use Rattle.chess_items.proofs.skimming.skim_on.Goals as goal

pub returns-in-Err-clause-broken : goal.returns-in-Err-clause-broken
returns-in-Err-clause-broken g c = skim_broken g.X.Text.comes g.X.Text.at_hand g.X.Text.all g.X.Text.sound g.X.Text.reads g.X.Text.breaks c.args.text.now c.loop-fault.text c.take_one.new.text (1048576 - c.loop-fault.at) c.loop-fault.place c.in-Err.fault c.loop-fault.invariant.2 c.in-Err.ensures.broken

pub loop-fault-preserved : goal.loop-fault-preserved
loop-fault-preserved g c =
    let s = rw c.in-Ok-On.field-0-is at c.in-Ok-On.ensures.steps in (
      sound_on g.X.Text.comes g.X.Text.at_hand g.X.Text.all g.X.Text.sound g.X.Text.reads c.loop-fault.text c.take_one.new.text c.loop-fault.place c.in-Ok-On.next c.loop-fault.at c.in-Ok-On.used _ _ c.loop-fault.skimmer c.take_one.new.taker s,
      within_on g.X.Text.comes g.X.Text.at_hand g.X.Text.all g.X.Text.sound g.X.Text.reads c.loop-fault.text c.take_one.new.text c.loop-fault.place c.in-Ok-On.next c.loop-fault.at c.in-Ok-On.used _ c.loop-fault.skimmer c.take_one.new.taker c.loop-fault.invariant.1 s,
      onward_more g.X.Text.comes g.X.Text.at_hand g.X.Text.all g.X.Text.sound g.X.Text.reads c.args.text.now c.loop-fault.text c.take_one.new.text c.loop-fault.place c.in-Ok-On.next c.loop-fault.at c.in-Ok-On.used _ _ c.loop-fault.skimmer c.take_one.new.taker c.loop-fault.invariant.2 s,
      λ first h. skim_more g.X.Text.comes g.X.Text.at_hand g.X.Text.all g.X.Text.sound g.X.Text.reads first c.loop-fault.text c.take_one.new.text c.loop-fault.place c.in-Ok-On.next c.loop-fault.at c.in-Ok-On.used _ c.loop-fault.white c.loop-fault.skimmer c.take_one.new.taker (c.loop-fault.invariant.3 first h) s,
    )

pub returns-in-Ok-Stops-clause-skimmed : goal.returns-in-Ok-Stops-clause-skimmed
returns-in-Ok-Stops-clause-skimmed g c = λ first h.
    if_ends g.X.Text.comes g.X.Text.at_hand g.X.Text.all g.X.Text.sound g.X.Text.reads (UsesAllIn {X = g.row.X.Denot} g.X.Text.comes g.X.Text.at_hand g.X.Text.all g.X.Text.reads first c.end_white.new.text) c.in-Ok-Stops.why c.loop-fault.white c.loop-fault.place c.take_one.new.text c.end_white.new.text c.end_white.result c.end_white.ensures.ends
    (skimmed_at g.X.Text.comes g.X.Text.at_hand g.X.Text.all g.X.Text.sound g.X.Text.reads first c.loop-fault.text c.take_one.new.text c.end_white.new.text c.loop-fault.place c.loop-fault.at c.loop-fault.skimmer c.take_one.new.taker c.loop-fault.white c.in-Ok-Stops.why (c.loop-fault.invariant.3 first h) (rw c.in-Ok-Stops.field-0-is at c.in-Ok-Stops.ensures.steps))

pub returns-in-Ok-Stops-clause-onward : goal.returns-in-Ok-Stops-clause-onward
returns-in-Ok-Stops-clause-onward g c =
    let o = onward_stops g.X.Text.comes g.X.Text.at_hand g.X.Text.all g.X.Text.sound g.X.Text.reads c.args.text.now c.loop-fault.text c.take_one.new.text c.loop-fault.place c.loop-fault.at _ c.loop-fault.skimmer c.take_one.new.taker c.in-Ok-Stops.why c.loop-fault.invariant.2 (rw c.in-Ok-Stops.field-0-is at c.in-Ok-Stops.ensures.steps) in
    if_ends g.X.Text.comes g.X.Text.at_hand g.X.Text.all g.X.Text.sound g.X.Text.reads (Onward {X = g.row.X.Denot} g.X.Text.comes g.X.Text.at_hand g.X.Text.all c.args.text.now c.end_white.new.text) c.in-Ok-Stops.why c.loop-fault.white c.loop-fault.place c.take_one.new.text c.end_white.new.text c.end_white.result c.end_white.ensures.ends
    (onward_white g.X.Text.comes g.X.Text.at_hand g.X.Text.all g.X.Text.sound g.X.Text.reads c.in-Ok-Stops.why c.loop-fault.white c.loop-fault.place c.args.text.now c.take_one.new.text c.end_white.new.text o)

pub returns-in-Ok-Stops-clause-sound : goal.returns-in-Ok-Stops-clause-sound
returns-in-Ok-Stops-clause-sound g c =
    let so = sound_stops g.X.Text.comes g.X.Text.at_hand g.X.Text.all g.X.Text.sound g.X.Text.reads c.loop-fault.text c.take_one.new.text c.loop-fault.place c.loop-fault.at _ c.loop-fault.skimmer c.take_one.new.taker c.in-Ok-Stops.why (rw c.in-Ok-Stops.field-0-is at c.in-Ok-Stops.ensures.steps) in
    if_ends g.X.Text.comes g.X.Text.at_hand g.X.Text.all g.X.Text.sound g.X.Text.reads (g.X.Text.sound c.end_white.new.text) c.in-Ok-Stops.why c.loop-fault.white c.loop-fault.place c.take_one.new.text c.end_white.new.text c.end_white.result c.end_white.ensures.ends
    (sound_white g.X.Text.comes g.X.Text.at_hand g.X.Text.all g.X.Text.sound g.X.Text.reads c.in-Ok-Stops.why c.loop-fault.white c.loop-fault.place c.take_one.new.text c.end_white.new.text so)

pub returns-in-Ok-Stops-clause-broken : goal.returns-in-Ok-Stops-clause-broken
returns-in-Ok-Stops-clause-broken g c =
    let o = onward_stops g.X.Text.comes g.X.Text.at_hand g.X.Text.all g.X.Text.sound g.X.Text.reads c.args.text.now c.loop-fault.text c.take_one.new.text c.loop-fault.place c.loop-fault.at _ c.loop-fault.skimmer c.take_one.new.taker c.in-Ok-Stops.why c.loop-fault.invariant.2 (rw c.in-Ok-Stops.field-0-is at c.in-Ok-Stops.ensures.steps) in
    if_breaks g.X.Text.comes g.X.Text.at_hand g.X.Text.breaks g.X.Text.all g.X.Text.reads (MaySkip c.loop-fault.place) (c.loop-fault.white ≡ true) c.args.text.now c.take_one.new.text c.end_white.new.text o c.end_white.result c.end_white.ensures.broken

pub end_white-requires : goal.end_white-requires
end_white-requires g c = record { sound = sound_stops g.X.Text.comes g.X.Text.at_hand g.X.Text.all g.X.Text.sound g.X.Text.reads c.loop-fault.text c.take_one.new.text c.loop-fault.place c.loop-fault.at _ c.loop-fault.skimmer c.take_one.new.taker c.in-Ok-Stops.why (rw c.in-Ok-Stops.field-0-is at c.in-Ok-Stops.ensures.steps) }

pub returns-in-Err-clause-in_part : goal.returns-in-Err-clause-in_part
returns-in-Err-clause-in_part g c = λ first h. skim_part g.X.Text.comes g.X.Text.at_hand g.X.Text.all g.X.Text.sound g.X.Text.reads first c.loop-fault.text c.loop-fault.place c.loop-fault.at c.loop-fault.skimmer c.loop-fault.white (c.loop-fault.invariant.3 first h) g.X.Text.breaks c.take_one.new.text c.in-Err.fault c.in-Err.ensures.broken

pub returns-in-Ok-Stops-clause-in_part : goal.returns-in-Ok-Stops-clause-in_part
returns-in-Ok-Stops-clause-in_part g c = λ first h.
    white_in_part g.X.Text.comes g.X.Text.at_hand g.X.Text.all g.X.Text.sound g.X.Text.reads g.X.Text.breaks first c.loop-fault.text c.take_one.new.text c.end_white.new.text c.loop-fault.place c.loop-fault.at c.loop-fault.skimmer c.take_one.new.taker c.loop-fault.white c.in-Ok-Stops.why
    (c.loop-fault.invariant.3 first h) (rw c.in-Ok-Stops.field-0-is at c.in-Ok-Stops.ensures.steps) c.end_white.result c.end_white.ensures.broken
