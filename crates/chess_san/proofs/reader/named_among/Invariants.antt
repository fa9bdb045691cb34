use Rattle.chess_moves.specs.steps.Targets.{move_to}
use Rattle.chess_moves.proofs.Still.{IsStill}
use Rattle.chess_moves.proofs.SafeSteps.{FoundAmong}
use Rattle.chess_san.specs.Naming.{names}
use Rattle.chess_san.specs.steps.Origins.{legal_and}
use Rattle.chess_san.proofs.reader.named_among.Given as goal

abbrev pub invariant-loop-from : goal.invariant-loop-from
invariant-loop-from g l = record {
  can : (goal.iterator-loop-from g).can_next l.from-iterator;
  finite : (goal.iterator-loop-from g).is_finite l.from-iterator;
  still : IsStill l.live l.fn.live;
  found : FoundAmong (λ s. legal_and (names l.fn.live.position l.form) l.fn.live.position (move_to s l.to l.promo)) l.fn.all l.named l.from-iterator;
}
