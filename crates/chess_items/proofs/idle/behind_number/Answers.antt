use Rattle.std.proofs.Common.{rules}
use Rattle.chess_items.proofs.FirstLemmas.{number_first}
use Rattle.chess_items.proofs.idle.behind_number.Goals as goal

pub returns : goal.returns
returns c =
    number_first c.run_len.ensures.run c.split_at.ensures.front c.split_at.ensures.back c.in_ok-next.ensures.cases.0 (search rules) (search rules)
