use Rattle.std.proofs.Common.{arith, ap, length}
use Rattle.chess_tree.proofs.CommentLemmas.{behind_start, word_added, word_left}
use Rattle.chess_tree.proofs.tree.comment.normalised.Goals as goal

pub loop-word-init : goal.loop-word-init
loop-word-init g c = behind_start _ _ c.new-comment.ensures.items

pub loop-word-preserved : goal.loop-word-preserved
loop-word-preserved g c =
    word_added c.loop-word.comment.items c.add_word.new.comment.items c.in-Some.word.now c.loop-word.rest.now c.in-Some.others.now c.args.text.now c.loop-word.invariant c.in-Some.ensures.some c.in_ok-add_word.ensures

pub returns-in_err-add_word-clause-no_words : goal.returns-in_err-add_word-clause-no_words
returns-in_err-add_word-clause-no_words g c =
    let some = word_left c.loop-word.comment.items c.in-Some.word.now c.loop-word.rest.now c.in-Some.others.now c.args.text.now c.loop-word.invariant c.in-Some.ensures.some in
    λ blank. absurd (omega (arith, some, ap length blank))
