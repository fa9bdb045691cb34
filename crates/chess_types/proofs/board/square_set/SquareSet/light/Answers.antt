use Rattle.chess_types.proofs.SetShapes.{in_light}
use Rattle.chess_types.proofs.board.square_set.SquareSet.light.Goals as goal

pub returns : goal.returns
returns c = in_light
