use Rattle.std.proofs.Common.{arith}
use Rattle.chess_types.proofs.SetShapes.{in_rank}
use Rattle.chess_types.proofs.board.square_set.SquareSet.rank.Goals as goal

pub returns : goal.returns
returns c = λ s. in_rank c.args.rank s (omega arith)
