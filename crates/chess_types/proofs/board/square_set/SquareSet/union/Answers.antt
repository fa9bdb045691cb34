use Rattle.std.proofs.lemmas.Nat.{or_lt}
use Rattle.chess_types.proofs.BitLemmas.{set_of-or}
use Rattle.chess_types.proofs.board.square_set.SquareSet.union.Goals as goal

pub invariant_of-result : goal.invariant_of-result
invariant_of-result c = or_lt 64 c.self.inside.bits c.other.inside.bits c.self.invariant c.other.invariant

pub returns : goal.returns
returns c = rw (← c.self.view_is, ← c.other.view_is) (set_of-or c.self.inside.bits c.other.inside.bits)
