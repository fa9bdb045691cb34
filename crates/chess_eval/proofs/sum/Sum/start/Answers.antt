use Rattle.std.proofs.Common.{sym}
use Rattle.chess_eval.proofs.StartSums.{sums_start}
use Rattle.chess_eval.proofs.sum.Sum.start.Goals as goal

pub returns : goal.returns
returns c = sym sums_start
