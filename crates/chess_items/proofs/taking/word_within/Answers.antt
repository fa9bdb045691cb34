use Rattle.std.proofs.Common.{rules}
use Rattle.chess_items.proofs.FirstLemmas.{word_first}
use Rattle.chess_items.proofs.taking.word_within.Goals as goal

pub returns : goal.returns
returns c =
    word_first c.in_ok-first.ensures.cases.0 (search rules) (search rules) c.run_len.ensures.run c.split_at.ensures.front c.split_at.ensures.back (search rules)
