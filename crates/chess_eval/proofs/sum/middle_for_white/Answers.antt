use Rattle.std.proofs.Common.{Some, arith}
use Rattle.std.proofs.lemmas.Int.{ints}
use Rattle.chess_eval.specs.Worth.{middle_of}
use Rattle.chess_eval.proofs.SmallWorths.{middle_within, white_is}
use Rattle.chess_eval.proofs.sum.middle_for_white.Goals as goal

pub returns : goal.returns
returns c =
    white_is middle_of c.args.man c.args.square (middle_within (Some c.args.man) c.args.square (omega arith)) c.for_white.ensures
    (omega (arith, ints, c.middle.ensures.value, c.middle.ensures.low, c.middle.ensures.high))
