use Rattle.std.proofs.Common.{arith}
use Rattle.chess_types.proofs.BitLemmas.{set_of-insert, inserted_fits}
use Rattle.chess_types.proofs.board.square_set.SquareSet.insert.Goals as goal

pub returns : goal.returns
returns c = grind (arith, set_of-insert c.self.inside.bits c.index.result c.index.ensures.below)

pub invariant_of-self : goal.invariant_of-self
invariant_of-self c = inserted_fits c.self.inside.bits c.index.result c.self.invariant c.index.ensures.below
