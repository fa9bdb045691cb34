use Rattle.std.proofs.Common.{arith}
use Rattle.std.proofs.lemmas.Grind.{common_steps}
use Rattle.byte_streams.proofs.WordLemmas.{no_words, words_split}
use Rattle.byte_streams.proofs.words.split_word.Goals as goal

pub returns-then-is_empty-clause-none : goal.returns-then-is_empty-clause-none
returns-then-is_empty-clause-none c =
    no_words c.args.gaps.now c.args.bytes.now c.skip_gaps-bytes.result.now c.skip_gaps-bytes.ensures (grind (arith, common_steps))

pub returns-clause-some : goal.returns-clause-some
returns-clause-some c =
    let split = words_split c.args.gaps.now c.args.bytes.now c.skip_gaps-bytes.result.now c.skip_gaps-bytes.ensures (grind (arith, common_steps)) in
    grind (arith, common_steps, split)
