use Rattle.std.proofs.Common.{arith}
use Rattle.chess_types.proofs.BitLemmas.{tests_bit}
use Rattle.chess_types.proofs.board.square_set.SquareSet.contains.Goals as goal

pub returns : goal.returns
returns c = grind (arith, tests_bit c.self.inside.bits c.index.result c.index.ensures.below)
