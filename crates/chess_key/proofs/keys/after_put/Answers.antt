use Rattle.std.proofs.Common.{arith}
use Rattle.chess_key.proofs.KeyLaws.{key_of-put}
use Rattle.chess_key.proofs.keys.after_put.Goals as goal

pub returns : goal.returns
returns c =
    rw (c.word.ensures, c.requires.agrees) (key_of-put c.args.table.now c.args.before.now c.args.at c.args.man (omega arith) c.requires.empty)
