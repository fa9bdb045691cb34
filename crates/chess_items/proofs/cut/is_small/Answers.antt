use Rattle.std.proofs.Common.{◌≡◌, ℕ, List, drop, nat_lt, is_some, ap, subst, sym, ◌∙◌}
use Rattle.std.proofs.lemmas.List.{take_rest}
use Rattle.chess_items.specs.Items.{digits_value}
use Rattle.chess_items.specs.steps.ItemAt.{small}
use Rattle.chess_items.proofs.ResumeLemmas.{same_number, some_small}
use Rattle.chess_items.proofs.cut.is_small.Goals as goal

pub returns : goal.returns
returns c =
    let digits = c.args.digits.now in
    let from = c.saturating_sub.result in
    let same : digits_value 0 (drop from digits) ≡ digits_value 0 digits =
    subst (λ (n : ℕ). digits_value 0 (drop n digits) ≡ digits_value 0 digits) (sym c.saturating_sub.ensures) (same_number digits c.args.seen c.requires.within c.requires.seen) in
    c.is_some.ensures ∙ ap is_some c.digits_value.ensures ∙ ap (λ (x : List ℕ). is_some (small (digits_value 0 x))) (take_rest digits from)
    ∙ some_small (digits_value 0 (drop from digits)) ∙ ap (λ (n : ℕ). nat_lt n 256) same
