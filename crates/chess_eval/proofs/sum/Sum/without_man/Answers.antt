use Rattle.std.proofs.Common.{arith, Some, subst, sym, ◌∙◌}
use Rattle.std.proofs.lemmas.Int.{ints}
use Rattle.chess_eval.specs.steps.Changes.{AreInRange}
use Rattle.chess_eval.proofs.Evaluations.{without_is}
use Rattle.chess_eval.proofs.SmallWorths.{end_within, middle_within}
use Rattle.chess_eval.proofs.sum.Sum.without_man.Goals as goal

pub overflow_sub-middle : goal.overflow_sub-middle
overflow_sub-middle c =
    let small = middle_within (Some c.args.man) c.args.square (omega arith) in
    omega (arith, ints, c.middle_for_white-middle.ensures, small.low, small.high)

pub overflow_sub-end : goal.overflow_sub-end
overflow_sub-end c =
    let small = end_within (Some c.args.man) c.args.square (omega arith) in
    omega (arith, ints, c.end_for_white-end.ensures, small.low, small.high)

pub plus-requires : goal.plus-requires
plus-requires c = subst AreInRange (sym (without_is c.args.self.now c.args.man c.args.square (omega arith) c.middle_for_white-middle.ensures c.end_for_white-end.ensures c.weight.ensures.value)) c.requires

pub returns : goal.returns
returns c = c.plus.ensures ∙ without_is c.args.self.now c.args.man c.args.square (omega arith) c.middle_for_white-middle.ensures c.end_for_white-end.ensures c.weight.ensures.value
