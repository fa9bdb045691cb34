use Rattle.std.proofs.Common.{arith}
use Rattle.chess_types.proofs.BitLemmas.{set_of-insert}
use Rattle.chess_c.proofs.squares.with_square.Goals as goal

pub returns : goal.returns
returns c = grind (arith, set_of-insert c.args.word c.index.result c.index.ensures.below)
