use Rattle.std.proofs.Common.{arith}
use Rattle.chess_types.proofs.BitLemmas.{set_of-remove}
use Rattle.chess_types.proofs.board.square_set.SquareSet.remove.Goals as goal

pub returns : goal.returns
returns c = grind (arith, set_of-remove c.self.inside.bits c.index.result c.index.ensures.below)
