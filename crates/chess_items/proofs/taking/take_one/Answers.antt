use Rattle.std.proofs.Common.{rules, ◌<◌, length, refl}
use Rattle.chess_items.proofs.OfferLemmas.{found_within, seen_at_once, step_settled}
use Rattle.chess_items.proofs.FirstLemmas.{space_first, period_first}
use Rattle.chess_items.proofs.taking.take_one.Goals as goal

-- ---- any item

pub overflow_sub-used-2 : goal.overflow_sub-used-2
overflow_sub-used-2 g c = found_within _ c.unread-3.ensures c.in-Some-item.ensures c.unread-4.ensures

pub settle-requires-2-clause-within : goal.settle-requires-2-clause-within
settle-requires-2-clause-within g c = found_within _ c.unread-3.ensures c.in-Some-item.ensures refl

pub returns-clause-steps : goal.returns-clause-steps
returns-clause-steps g c =
    let some : 0 < length c.in-Some-item.rest.now = search rules in
    step_settled (seen_at_once c.requires c.unread-3.ensures c.in-Some-item.ensures some) c.unread-3.ensures c.in-Some-item.ensures c.unread-4.ensures c.offer-step-2.result c.offer-step-2.ensures c.settle-2.ensures.step c.settle-2.ensures.text

-- ---- a move's text within a line

pub overflow_sub-used : goal.overflow_sub-used
overflow_sub-used g c = found_within _ c.unread-in-Some.ensures c.in-Some-word_within.ensures.found c.unread-in-Some-word_within.ensures

pub settle-requires-clause-within : goal.settle-requires-clause-within
settle-requires-clause-within g c = found_within _ c.unread-in-Some.ensures c.in-Some-word_within.ensures.found refl

pub returns-in-Some-word_within-clause-steps : goal.returns-in-Some-word_within-clause-steps
returns-in-Some-word_within-clause-steps g c =
    let followed = c.in-Some-word_within.ensures in
    rw (c.in-Some.ensures.here)
    (step_settled (seen_at_once c.requires c.unread-in-Some.ensures followed.found followed.some) c.unread-in-Some.ensures followed.found c.unread-in-Some-word_within.ensures c.offer-step.result c.offer-step.ensures c.settle.ensures.step c.settle.ensures.text)

-- ---- others that are known by their first byte

pub take_first-requires-clause-first : goal.take_first-requires-clause-first
take_first-requires-clause-first g c = space_first c.unread.ensures c.if-b-eq32.true c.in-Some.ensures

pub take_first-requires-then-b-eq46-clause-first : goal.take_first-requires-then-b-eq46-clause-first
take_first-requires-then-b-eq46-clause-first g c = period_first c.unread.ensures c.if-b-eq46.true c.in-Some.ensures
