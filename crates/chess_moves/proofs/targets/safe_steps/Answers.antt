use Rattle.std.proofs.Common.{◌∙◌}
use Rattle.chess_moves.specs.steps.Guarded.{is_safe_step}
use Rattle.chess_moves.proofs.SafeSteps.{found_first, found_next, found_all}
use Rattle.chess_moves.proofs.targets.safe_steps.Goals as goal

pub loop-to-init : goal.loop-to-init
loop-to-init g c = record {
  can = tt;
  finite = tt;
  found = found_first (is_safe_step c.args.live.now.position c.args.guard.now.king) c.empty-safe.ensures
      (c.into_iter-to-iterator.ensures.into_iter_gives ∙ c.iter-to-items.ensures.value);
}

pub loop-to-preserved : goal.loop-to-preserved
loop-to-preserved g c = record {
  can = tt;
  finite = tt;
  found = found_next c.loop-to.invariant.found c.insert_if.ensures c.king_is_safe-unattacked.ensures c.in-Some.ensures.steps;
}

pub returns : goal.returns
returns g c = found_all c.loop-to.invariant.found c.in-None.ensures.steps.0
