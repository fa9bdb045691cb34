use Rattle.std.proofs.Common.{arith, subst, sym}
use Rattle.std.proofs.lemmas.Int.{ints}
use Rattle.chess_eval.specs.steps.Changes.{AreInRange}
use Rattle.chess_eval.proofs.Evaluations.{same_sums, same_parts}
use Rattle.chess_eval.proofs.sum.Sum.plus.Goals as goal

pub returns : goal.returns
returns c =
    let same = same_parts c.self.view_is in
    same_sums
    (omega (arith, ints, same.middle, c.requires.middle.low, c.requires.middle.high))
    (omega (arith, ints, same.end, c.requires.end.low, c.requires.end.high))
    (omega (arith, ints, same.weights, c.requires.weights_low, c.requires.weights_high))

pub invariant_of-result : goal.invariant_of-result
invariant_of-result c = subst AreInRange (sym (returns c)) c.requires
