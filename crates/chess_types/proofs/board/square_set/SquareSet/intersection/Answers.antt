use Rattle.chess_types.proofs.BitLemmas.{set_of-and}
use Rattle.chess_types.proofs.board.square_set.SquareSet.intersection.Goals as goal

pub returns : goal.returns
returns c = rw (← c.self.view_is, ← c.other.view_is) (set_of-and c.self.inside.bits c.other.inside.bits)
