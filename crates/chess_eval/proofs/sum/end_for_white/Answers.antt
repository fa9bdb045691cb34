use Rattle.std.proofs.Common.{Some, arith}
use Rattle.std.proofs.lemmas.Int.{ints}
use Rattle.chess_eval.specs.Worth.{end_of}
use Rattle.chess_eval.proofs.SmallWorths.{end_within, white_is}
use Rattle.chess_eval.proofs.sum.end_for_white.Goals as goal

pub returns : goal.returns
returns c =
    white_is end_of c.args.man c.args.square (end_within (Some c.args.man) c.args.square (omega arith)) c.for_white.ensures
    (omega (arith, ints, c.end.ensures.value, c.end.ensures.low, c.end.ensures.high))
