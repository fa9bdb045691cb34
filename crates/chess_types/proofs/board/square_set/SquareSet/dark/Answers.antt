use Rattle.chess_types.proofs.SetShapes.{in_dark}
use Rattle.chess_types.proofs.board.square_set.SquareSet.dark.Goals as goal

pub returns : goal.returns
returns c = in_dark
