use Rattle.std.proofs.Common.{arith}
use Rattle.chess_eval.proofs.Tables.{end_entry}
use Rattle.chess_eval.proofs.SmallWorths.{end_read}
use Rattle.chess_eval.proofs.worths.end.Goals as goal

pub returns : goal.returns
returns c =
    let read = end_read c.args.man c.args.square (omega arith) (end_entry c.args.man c.args.square (omega arith) c.number.ensures.value c.index.ensures.value) in
    record { value = read.value; low = read.low; high = read.high }
