use Rattle.chess_types.proofs.BitLemmas.{set_of_zero}
use Rattle.chess_types.proofs.board.square_set.SquareSet.empty.Goals as goal

pub returns : goal.returns
returns c = set_of_zero
