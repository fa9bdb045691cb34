use Rattle.chess_attack.proofs.StopSets.{stop_next}
use Rattle.chess_attack.proofs.pin.check_masks.Goals as goal

pub loop-from-preserved : goal.loop-from-preserved
loop-from-preserved c = record {
  can = tt;
  finite = tt;
  rest = λ to ht.
      stop_next c.args.king to c.in-Some.from c.loop-from.stopped c.check_mask-one.result c.intersection-stopped.result c.loop-from.from-iterator
      c.next.new.self _ c.intersection-stopped.ensures (c.check_mask-one.ensures to ht) c.in-Some.ensures.steps (c.loop-from.invariant.rest to ht);
}
