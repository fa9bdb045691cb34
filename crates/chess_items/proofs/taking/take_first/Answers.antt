use Rattle.chess_items.proofs.FirstLemmas.{left_within}
use Rattle.chess_items.proofs.OfferLemmas.{step_first}
use Rattle.std.proofs.Common.{refl}
use Rattle.chess_items.proofs.taking.take_first.Goals as goal

pub overflow_sub-used : goal.overflow_sub-used
overflow_sub-used g c = left_within c.requires.first c.unread.ensures

pub settle-requires-clause-within : goal.settle-requires-clause-within
settle-requires-clause-within g c = left_within c.requires.first refl

pub returns : goal.returns
returns g c =
    record { steps = step_first c.requires.first c.requires.sound c.requires.here c.unread.ensures c.offer-step.result c.offer-step.ensures c.settle.ensures.step c.settle.ensures.text }
