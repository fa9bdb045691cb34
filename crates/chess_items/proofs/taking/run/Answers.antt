use Rattle.std.proofs.Common.{arith, ◌+◌, ◌&&◌}
use Rattle.chess_items.specs.declared.taking.Stop.TheVariants as stop
use Rattle.chess_items.proofs.TakingLemmas.{passed_on, underway_start, ran, ran_ends, ran_broken, goes_on, falls, sound_after}
use Rattle.chess_items.proofs.taking.run.Goals as goal

pub loop-fault-init : goal.loop-fault-init
loop-fault-init g c = underway_start g.X.Text.comes g.X.Text.at_hand g.X.Text.all g.X.Text.sound g.X.Text.reads g.T.Taker.takes c.args.limit c.args.text.now c.args.taker.now c.requires

pub returns-in-Err-clause-broken : goal.returns-in-Err-clause-broken
returns-in-Err-clause-broken g c =
    let w = passed_on g.X.Text.comes g.X.Text.at_hand g.X.Text.all g.X.Text.sound g.X.Text.reads g.T.Taker.takes c.args.limit c.args.text.now c.args.taker.now c.loop-fault.at c.loop-fault.place c.loop-fault.white c.loop-fault.text c.pass_idle-after.new.text c.loop-fault.taker c.pass_idle-after.result.0 c.pass_idle-after.result.1 c.loop-fault.invariant c.pass_idle-after.ensures in
    ran_broken g.X.Text.comes g.X.Text.at_hand g.X.Text.all g.X.Text.sound g.X.Text.reads g.T.Taker.takes c.args.limit c.args.text.now c.args.taker.now g.X.Text.breaks (c.loop-fault.at + c.pass_idle-after.result.1) c.pass_idle-after.result.0 c.loop-fault.white c.pass_idle-after.new.text c.take_one.new.text c.loop-fault.taker c.in-Err.fault w c.in-Err.ensures.broken

pub returns-in-Ok-Stops : goal.returns-in-Ok-Stops
returns-in-Ok-Stops g c =
    let w = passed_on g.X.Text.comes g.X.Text.at_hand g.X.Text.all g.X.Text.sound g.X.Text.reads g.T.Taker.takes c.args.limit c.args.text.now c.args.taker.now c.loop-fault.at c.loop-fault.place c.loop-fault.white c.loop-fault.text c.pass_idle-after.new.text c.loop-fault.taker c.pass_idle-after.result.0 c.pass_idle-after.result.1 c.loop-fault.invariant c.pass_idle-after.ensures in
    let ended = ran g.X.Text.comes g.X.Text.at_hand g.X.Text.all g.X.Text.sound g.X.Text.reads g.T.Taker.takes c.args.limit c.args.text.now c.args.taker.now (c.loop-fault.at + c.pass_idle-after.result.1) c.pass_idle-after.result.0 c.loop-fault.white c.pass_idle-after.new.text c.take_one.new.text c.loop-fault.taker c.take_one.new.taker c.in-Ok-Stops.why w (rw c.in-Ok-Stops.field-0-is at c.in-Ok-Stops.ensures.steps) in
    record { sound = sound_after g.X.Text.comes g.X.Text.at_hand g.X.Text.all g.X.Text.sound g.X.Text.reads g.T.Taker.takes c.args.limit c.args.text.now c.args.taker.now c.take_one.new.text c.take_one.new.taker ended.pieces (c.loop-fault.at + c.pass_idle-after.result.1) c.pass_idle-after.result.0 c.loop-fault.white c.in-Ok-Stops.why ended.after; ran = ended; broken = tt }

pub returns-in-Ok-Full : goal.returns-in-Ok-Full
returns-in-Ok-Full g c =
    let w = passed_on g.X.Text.comes g.X.Text.at_hand g.X.Text.all g.X.Text.sound g.X.Text.reads g.T.Taker.takes c.args.limit c.args.text.now c.args.taker.now c.loop-fault.at c.loop-fault.place c.loop-fault.white c.loop-fault.text c.pass_idle-after.new.text c.loop-fault.taker c.pass_idle-after.result.0 c.pass_idle-after.result.1 c.loop-fault.invariant c.pass_idle-after.ensures in
    let ended = ran_ends g.X.Text.comes g.X.Text.at_hand g.X.Text.all g.X.Text.sound g.X.Text.reads g.T.Taker.takes c.args.limit c.args.text.now c.args.taker.now (c.loop-fault.at + c.pass_idle-after.result.1) c.pass_idle-after.result.0 c.loop-fault.white c.pass_idle-after.new.text c.take_one.new.text c.loop-fault.taker c.take_one.new.taker c.in-Ok-Full.next c.in-Ok-Full.used c.in-Ok-Full.is_white w (rw c.in-Ok-Full.field-0-is at c.in-Ok-Full.ensures.steps) in
    record { sound = sound_after g.X.Text.comes g.X.Text.at_hand g.X.Text.all g.X.Text.sound g.X.Text.reads g.T.Taker.takes c.args.limit c.args.text.now c.args.taker.now c.take_one.new.text c.take_one.new.taker ended.pieces (c.loop-fault.at + c.pass_idle-after.result.1 + c.in-Ok-Full.used) c.in-Ok-Full.next (c.loop-fault.white && c.in-Ok-Full.is_white) stop.Full ended.after; ran = ended; broken = tt }

pub loop-fault-preserved : goal.loop-fault-preserved
loop-fault-preserved g c =
    let w = passed_on g.X.Text.comes g.X.Text.at_hand g.X.Text.all g.X.Text.sound g.X.Text.reads g.T.Taker.takes c.args.limit c.args.text.now c.args.taker.now c.loop-fault.at c.loop-fault.place c.loop-fault.white c.loop-fault.text c.pass_idle-after.new.text c.loop-fault.taker c.pass_idle-after.result.0 c.pass_idle-after.result.1 c.loop-fault.invariant c.pass_idle-after.ensures in
    goes_on g.X.Text.comes g.X.Text.at_hand g.X.Text.all g.X.Text.sound g.X.Text.reads g.T.Taker.takes c.args.limit c.args.text.now c.args.taker.now (c.loop-fault.at + c.pass_idle-after.result.1) c.pass_idle-after.result.0 c.loop-fault.white c.pass_idle-after.new.text c.take_one.new.text c.loop-fault.taker c.take_one.new.taker c.in-Ok-On.next c.in-Ok-On.used c.in-Ok-On.is_white w (rw c.in-Ok-On.field-0-is at c.in-Ok-On.ensures.steps)

pub loop-fault-smaller : goal.loop-fault-smaller
loop-fault-smaller g c =
    let f = falls g.X.Text.comes g.X.Text.at_hand g.X.Text.all g.X.Text.sound g.X.Text.reads g.T.Taker.takes c.args.limit c.args.text.now c.args.taker.now (c.loop-fault.at + c.pass_idle-after.result.1) c.pass_idle-after.result.0 c.pass_idle-after.new.text c.take_one.new.text c.loop-fault.taker c.take_one.new.taker c.in-Ok-On.next c.in-Ok-On.used c.in-Ok-On.is_white (rw c.in-Ok-On.field-0-is at c.in-Ok-On.ensures.steps) in
    omega (arith, f, c.pass_idle-after.ensures.no_larger)
