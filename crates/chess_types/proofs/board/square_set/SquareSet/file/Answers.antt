use Rattle.std.proofs.Common.{arith}
use Rattle.chess_types.proofs.SetShapes.{in_file}
use Rattle.chess_types.proofs.board.square_set.SquareSet.file.Goals as goal

pub returns : goal.returns
returns c = λ s. in_file c.args.file s (omega arith)
