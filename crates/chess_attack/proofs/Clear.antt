-- A clear line: no man stands strictly between its ends.
use Rattle.std.proofs.Common.{◌≡◌, ℕ, ◌<◌, true, not, ◌||◌, Option, Some, None, is_none, refl, sym, arith, inl, inr}
use Rattle.std.proofs.lemmas.Bool.{or_cases, cases_Bool, true≢false}
use Rattle.chess_types.specs.declared.board.man.Man.{Man}
use Rattle.chess_types.specs.board.Board.{Men}
use Rattle.chess_types.specs.board.Squares.{is_between, squares}
use Rattle.chess_types.specs.board.Attack.{is_clear}
use Rattle.chess_types.proofs.Runs.{list_all_at, list_all_from}

none_of : (o : Option Man) → is_none o ≡ true → o ≡ None
none_of None h = refl
none_of (Some man) h = cc

-- no man stands on a square between
pub clear_at : (man_on : Men) (a b t : ℕ) → is_clear man_on a b ≡ true → t < 64 → is_between a b t ≡ true → man_on t ≡ None
unfolding is_clear squares
clear_at man_on a b t h lt between =
    elim (or_cases (not (is_between a b t)) (is_none (man_on t)) (list_all_at (λ x. not (is_between a b x) || is_none (man_on x)) 0 64 t h (omega arith) lt)) [
      | inl outside ↦ absurd (true≢false (sym (rw between at outside)))
      | inr none ↦ none_of (man_on t) none
    ]

-- and back
pub clear_from :
    (man_on : Men) (a b : ℕ) → ((t : ℕ) → t < 64 → is_between a b t ≡ true → man_on t ≡ None) → is_clear man_on a b ≡ true
unfolding is_clear squares
clear_from man_on a b h =
    list_all_from (λ t. not (is_between a b t) || is_none (man_on t)) 0 64 (λ t low high.
    elim (cases_Bool (is_between a b t)) [
      | inl inside ↦ let e : man_on t ≡ None = h t high inside in rw (inside, e) refl
      | inr outside ↦ rw outside refl
    ])
