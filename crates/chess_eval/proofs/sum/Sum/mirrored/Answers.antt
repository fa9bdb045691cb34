use Rattle.std.proofs.Common.{sym, ap, subst, ◌∙◌, pos, neg_ℤ, ◌≤ℤ◌, arith}
use Rattle.std.proofs.lemmas.Int.{ints}
use Rattle.chess_types.specs.board.Board.{man_at}
use Rattle.chess_eval.specs.Evaluation.{Sums, tapered}
use Rattle.chess_eval.proofs.Evaluations.{same_sums, same_parts}
use Rattle.chess_eval.proofs.Mirrors.{sums-mirrored, evaluation-mirrored}
use Rattle.chess_eval.proofs.Tapers.{tapered-neg}
use Rattle.chess_eval.proofs.sum.Sum.mirrored.Goals as goal

abbrev negated : Sums → Sums
negated sums = record { middle = neg_ℤ sums.middle; end = neg_ℤ sums.end; weights = sums.weights }

pub returns-clause-value : goal.returns-clause-value
returns-clause-value c =
    let same = same_parts c.self.view_is in
    same_sums
    (omega (arith, ints, same.middle, c.self.invariant.middle.low, c.self.invariant.middle.high))
    (omega (arith, ints, same.end, c.self.invariant.end.low, c.self.invariant.end.high))
    (omega (arith, ints, same.weights, c.self.invariant.weights_low, c.self.invariant.weights_high))

pub returns-clause-agrees : goal.returns-clause-agrees
returns-clause-agrees c = λ board other mirror agrees.
    returns-clause-value c ∙ ap negated agrees ∙ sym (sums-mirrored (man_at board) (man_at other) mirror)

pub returns-clause-negative : goal.returns-clause-negative
returns-clause-negative c =
    let positive : pos 0 ≤ℤ c.args.self.now.weights = subst (λ (s : Sums). pos 0 ≤ℤ s.weights) c.self.view_is c.self.invariant.weights_low in
    ap tapered (returns-clause-value c) ∙ tapered-neg c.args.self.now positive

pub returns-clause-law : goal.returns-clause-law
returns-clause-law c = evaluation-mirrored
