use Rattle.chess_items.proofs.IdleLemmas.{idle_falls, idle_more, idle_none}
use Rattle.chess_items.proofs.idle.idle_run.Goals as goal

pub loop-next-init : goal.loop-next-init
loop-next-init c = λ at. idle_none at c.args.place c.args.bytes.now c.requires

pub loop-next-preserved : goal.loop-next-preserved
loop-next-preserved c = λ at. idle_more at c.args.place c.args.bytes.now _ _ _ _ (c.loop-next.invariant at) c.in-Some.ensures

pub loop-next-smaller : goal.loop-next-smaller
loop-next-smaller c = idle_falls _ _ _ c.in-Some.ensures
