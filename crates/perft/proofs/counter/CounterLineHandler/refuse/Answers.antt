use Rattle.std.proofs.Common.{refl, ◌∙◌}
use Rattle.perft.proofs.LineLemmas.{unread_is_long}
use Rattle.perft.proofs.counter.CounterLineHandler.refuse.Goals as goal

pub returns : goal.returns
returns g c = λ bytes unread.
    (_, (_, (c.as_bytes.ensures.value ∙ c.as_str.ensures.value ∙ c.long_line-text.ensures ∙ unread_is_long bytes c.args._line unread, refl), refl), c.put.ensures)
