use Rattle.std.proofs.Common.{arith}
use Rattle.chess_eval.proofs.Tables.{middle_entry}
use Rattle.chess_eval.proofs.SmallWorths.{middle_read}
use Rattle.chess_eval.proofs.worths.middle.Goals as goal

pub returns : goal.returns
returns c =
    let read = middle_read c.args.man c.args.square (omega arith) (middle_entry c.args.man c.args.square (omega arith) c.number.ensures.value c.index.ensures.value) in
    record { value = read.value; low = read.low; high = read.high }
