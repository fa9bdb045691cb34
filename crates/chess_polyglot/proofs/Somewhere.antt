-- A test of the squares of a set, and whether a set holds a square.
use Rattle.std.proofs.Common.{◌≡◌, ℕ, ◌+◌, ◌<◌, ◌≤◌, Bool, true, false, sym, ◌∙◌, arith, inl, inr}
use Rattle.std.specs.List.{list_any}
use Rattle.std.specs.Ordering.{nat_cmp}
use Rattle.std.specs.FinSet.{FinSet, contains}
use Rattle.std.proofs.lemmas.Bool.{cases_Bool, true≢false}
use Rattle.chess_types.specs.board.Squares.{squares}
use Rattle.chess_types.proofs.Runs.{list_any_at, list_any_from}

-- the set holds exactly the squares that pass the test
abbrev pub IsSetOf : FinSet nat_cmp → (ℕ → Bool) → Type 0
IsSetOf set test = (s : ℕ) → s < 64 → contains set s ≡ test s

pub some_pass : (set : FinSet nat_cmp) (test : ℕ → Bool) → IsSetOf set test → (s : ℕ) → s < 64 → contains set s ≡ true → list_any test squares ≡ true
unfolding squares
some_pass set test is s low held = list_any_from test 0 64 s (omega arith) (omega arith) (sym (is s low) ∙ held)

pub none_pass : (set : FinSet nat_cmp) (test : ℕ → Bool) → IsSetOf set test → ((s : ℕ) → contains set s ≡ false) → list_any test squares ≡ false
unfolding squares
none_pass set test is none =
    elim (cases_Bool (list_any test squares)) [
      | inr fails ↦ fails
      | inl passes ↦
          let (s, low, high, held) : (s : ℕ) × (0 ≤ s) × (s < 0 + 64) × (test s ≡ true) = list_any_at test 0 64 passes in
          absurd (true≢false (sym held ∙ sym (is s (omega arith)) ∙ none s))
    ]
