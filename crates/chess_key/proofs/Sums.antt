-- Sums over a run of squares.
use Rattle.std.proofs.Common.{◌≡◌, ◌≢◌, ℕ, zero, suc, ◌+◌, ◌<◌, ◌≤◌, refl, ap, arith, sum_by, inl, inr}
use Rattle.std.specs.List.{range_with_len}
use Rattle.std.proofs.lemmas.List.Sums.{sum_by-cons}
use Rattle.std.proofs.lemmas.Bool.{cases_eq}

-- f a + f (a + 1) + .. , n of them
unfoldable pub run : (ℕ → ℕ) → ℕ → ℕ → ℕ
run f a n = sum_by f (range_with_len a n)

pub run-none : (f : ℕ → ℕ) (a : ℕ) → run f a 0 ≡ 0
unfolding run
run-none f a = refl

pub run-first : (f : ℕ → ℕ) (a n : ℕ) → run f a (suc n) ≡ f a + run f (a + 1) n
unfolding run
run-first f a n = sum_by-cons f a (range_with_len (a + 1) n)

-- one number more
pub run-more : (f : ℕ → ℕ) (a n : ℕ) → run f a (suc n) ≡ run f a n + f (a + n)
run-more f a zero =
    let e : f (a + 0) ≡ f a = ap f (omega arith) in
    omega (arith, run-first f a 0, run-none f a, run-none f (a + 1))
run-more f a (suc n) =
    let e : f (a + 1 + n) ≡ f (a + suc n) = ap f (omega arith) in
    omega (arith, run-first f a (suc n), run-first f a n, run-more f (a + 1) n)

-- a sum of zeros
pub run-zero : (f : ℕ → ℕ) (a n : ℕ) → ((t : ℕ) → f t ≡ 0) → run f a n ≡ 0
run-zero f a zero h = run-none f a
run-zero f a (suc n) h = omega (arith, run-first f a n, h a, run-zero f (a + 1) n h)

-- the same numbers
run-same : (f g : ℕ → ℕ) (a n : ℕ) → ((t : ℕ) → a ≤ t → f t ≡ g t) → run f a n ≡ run g a n
run-same f g a zero h = omega (arith, run-none f a, run-none g a)
run-same f g a (suc n) h =
    omega (arith, run-first f a n, run-first g a n, h a (omega arith), run-same f g (a + 1) n (λ t low. h t (omega arith)))

-- numbers that differ in one place alone
pub run-one : (f g : ℕ → ℕ) (a n at : ℕ) → a ≤ at → at < a + n → ((t : ℕ) → t ≢ at → f t ≡ g t) → run f a n + g at ≡ run g a n + f at
run-one f g a zero at low high h = absurd (omega arith)
run-one f g a (suc n) at low high h =
    elim (cases_eq a at) [
      | inl same ↦
          let rest : run f (a + 1) n ≡ run g (a + 1) n = run-same f g (a + 1) n (λ t after. h t (omega arith)) in
          let there : f a ≡ f at = ap f same in
          let other : g a ≡ g at = ap g same in
          omega (arith, run-first f a n, run-first g a n)
      | inr apart ↦
          omega (arith, run-first f a n, run-first g a n, h a apart, run-one f g (a + 1) n at (omega arith) (omega arith) h)
    ]
