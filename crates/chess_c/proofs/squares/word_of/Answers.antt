use Rattle.std.proofs.Common.{rules}
use Rattle.chess_c.proofs.WordLemmas.{word_on, word_start, word_whole}
use Rattle.chess_c.proofs.squares.word_of.Goals as goal

pub loop-number-init : goal.loop-number-init
loop-number-init c = word_start c.args.set

pub loop-number-preserved : goal.loop-number-preserved
loop-number-preserved c =
    word_on c.args.set c.loop-number.word c.with_square_if-word.result c.loop-number.number c.contains.result (search rules) (search rules) c.loop-number.invariant

pub returns : goal.returns
returns c = word_whole c.args.set c.loop-number.word c.loop-number.number (search rules) c.loop-number.invariant
