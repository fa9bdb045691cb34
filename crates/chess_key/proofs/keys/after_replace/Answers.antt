use Rattle.std.proofs.Common.{arith}
use Rattle.chess_key.proofs.KeyLaws.{key_of-replace}
use Rattle.chess_key.proofs.keys.after_replace.Goals as goal

pub returns : goal.returns
returns c =
    rw (c.after_clear.ensures, c.word.ensures) (key_of-replace c.args.table.now c.args.before.now c.args.at c.args.man (omega arith))
