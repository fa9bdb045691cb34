use Rattle.std.proofs.Common.{◌<◌, ◌^◌, arith}
use Rattle.chess_types.specs.board.Board.{man_at}
use Rattle.chess_key.specs.Keys.{word_on}
use Rattle.chess_key.proofs.KeyLaws.{key_of-clear}
use Rattle.chess_key.proofs.keys.after_clear.Goals as goal

pub returns : goal.returns
returns c =
    let fits : word_on c.args.table.now (man_at c.args.before.now) c.args.at < 2 ^ 64 = omega arith in
    rw (c.word_on.ensures, c.requires) (key_of-clear c.args.table.now c.args.before.now c.args.at (omega arith) fits)
