use Rattle.std.proofs.Common.{sym}
use Rattle.chess_eval.proofs.Evaluations.{sums_empty}
use Rattle.chess_eval.proofs.sum.Sum.empty.Goals as goal

pub returns-clause-agrees : goal.returns-clause-agrees
returns-clause-agrees c = sym sums_empty
