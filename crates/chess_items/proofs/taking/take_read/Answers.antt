use Rattle.std.proofs.Common.{rules, ◌≡◌, ◌∙◌, length, sym, ap, refl}
use Rattle.chess_items.proofs.OfferLemmas.{step_undecided, found_within, seen_read, step_end, step_none, step_exceeds, step_settled}
use Rattle.chess_items.proofs.ReadLemmas.{empty_is}
use Rattle.chess_items.proofs.taking.take_read.Goals as goal

pub returns-in-Ok-false-clause-steps : goal.returns-in-Ok-false-clause-steps
returns-in-Ok-false-clause-steps g c = step_undecided c.in-Ok-false.ensures.made c.in-Ok-false.field-0-test

pub returns-then-is_empty-clause-steps : goal.returns-then-is_empty-clause-steps
returns-then-is_empty-clause-steps g c =
    let zero : length c.unread.result.now ≡ 0 = search rules in
    step_end (seen_read c.in-Ok-true.ensures.made c.in-Ok-true.field-0-test) (sym c.unread.ensures ∙ empty_is c.unread.result.now zero)

pub returns-then-exceeds-clause-steps : goal.returns-then-exceeds-clause-steps
returns-then-exceeds-clause-steps g c =
    step_exceeds (seen_read c.in-Ok-true.ensures.made c.in-Ok-true.field-0-test) c.unread-2.ensures c.in_default.ensures c.unread-in_default.ensures c.if-exceeds.ensures

pub returns-in_default-clause-steps : goal.returns-in_default-clause-steps
returns-in_default-clause-steps g c =
    step_none (seen_read c.in-Ok-true.ensures.made c.in-Ok-true.field-0-test) c.unread-2.ensures c.in_default.ensures c.unread-in_default.ensures
    (λ e. (let n : length c.unread.result.now ≡ 0 = ap length (c.unread.ensures ∙ e) in search rules)) c.if-exceeds.ensures

pub overflow_sub-used : goal.overflow_sub-used
overflow_sub-used g c = found_within _ c.unread-2.ensures c.in-Some.ensures c.unread-3.ensures

pub settle-requires-clause-within : goal.settle-requires-clause-within
settle-requires-clause-within g c = found_within _ c.unread-2.ensures c.in-Some.ensures refl

pub returns-clause-steps : goal.returns-clause-steps
returns-clause-steps g c =
    step_settled (seen_read c.in-Ok-true.ensures.made c.in-Ok-true.field-0-test) c.unread-2.ensures c.in-Some.ensures c.unread-3.ensures c.offer-step.result c.offer-step.ensures c.settle.ensures.step c.settle.ensures.text
