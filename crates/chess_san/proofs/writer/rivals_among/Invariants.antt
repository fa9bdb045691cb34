use Rattle.std.proofs.Common.{None}
use Rattle.chess_moves.specs.steps.Targets.{move_to}
use Rattle.chess_moves.proofs.Still.{IsStill}
use Rattle.chess_moves.proofs.SafeSteps.{FoundAmong}
use Rattle.chess_san.specs.Writing.{is_rival}
use Rattle.chess_san.specs.steps.Origins.{legal_and}
use Rattle.chess_san.proofs.writer.rivals_among.Given as goal

abbrev pub invariant-loop-other : goal.invariant-loop-other
invariant-loop-other g l = record {
  can : (goal.iterator-loop-other g).can_next l.other-iterator;
  finite : (goal.iterator-loop-other g).is_finite l.other-iterator;
  still : IsStill l.live l.fn.live;
  found : FoundAmong (λ s. legal_and (is_rival l.fn.live.position l.kind l.from l.to) l.fn.live.position (move_to s l.to None)) l.fn.all l.others l.other-iterator;
}
