use Rattle.chess_types.proofs.BitLemmas.{set_of-and_not}
use Rattle.chess_types.proofs.board.square_set.SquareSet.difference.Goals as goal

pub returns : goal.returns
returns c = rw (← c.self.view_is, ← c.other.view_is) (set_of-and_not c.self.inside.bits c.other.inside.bits c.other.invariant)
