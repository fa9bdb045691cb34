-- Sums over a run of squares.
use Rattle.std.proofs.Common.{◌≡◌, ◌≢◌, ℕ, zero, suc, ◌+◌, ◌*◌, ◌<◌, ◌≤◌, ℤ, pos, ◌+ℤ◌, neg_ℤ, ◌≤ℤ◌, refl, ap, ◌∙◌, mul-suc, arith, inl, inr}
use Rattle.std.specs.List.{range_with_len}
use Rattle.std.proofs.lemmas.Int.{ints}
use Rattle.std.proofs.lemmas.Bool.{cases_eq}
use Rattle.chess_eval.specs.Evaluation.{sum_over}

-- f a + f (a + 1) + .. , n of them
unfoldable pub run : (ℕ → ℤ) → ℕ → ℕ → ℤ
run f a n = sum_over f (range_with_len a n)

pub run-none : (f : ℕ → ℤ) (a : ℕ) → run f a 0 ≡ pos 0
unfolding run
run-none f a = refl

pub run-first : (f : ℕ → ℤ) (a n : ℕ) → run f a (suc n) ≡ f a +ℤ run f (a + 1) n
unfolding run
run-first f a n = refl

-- one number more
pub run-more : (f : ℕ → ℤ) (a n : ℕ) → run f a (suc n) ≡ run f a n +ℤ f (a + n)
run-more f a zero =
    let e : f (a + 0) ≡ f a = ap f (omega arith) in
    omega (arith, ints, run-first f a 0, run-none f a, run-none f (a + 1))
run-more f a (suc n) =
    let e : f (a + 1 + n) ≡ f (a + suc n) = ap f (omega arith) in
    omega (arith, ints, run-first f a (suc n), run-first f a n, run-more f (a + 1) n)

-- two runs, one after the other
pub run-joined : (f : ℕ → ℤ) (a m n : ℕ) → run f a (m + n) ≡ run f a m +ℤ run f (a + m) n
run-joined f a m zero =
    let e : run f a (m + 0) ≡ run f a m = ap (run f a) (omega arith) in
    omega (arith, ints, run-none f (a + m))
run-joined f a m (suc n) =
    let e : run f a (m + suc n) ≡ run f a (suc (m + n)) = ap (run f a) (omega arith) in
    let there : f (a + (m + n)) ≡ f (a + m + n) = ap f (omega arith) in
    omega (arith, ints, run-more f a (m + n), run-more f (a + m) n, run-joined f a m n)

-- the same numbers
pub run-same : (f g : ℕ → ℤ) (a n : ℕ) → ((t : ℕ) → a ≤ t → t < a + n → f t ≡ g t) → run f a n ≡ run g a n
run-same f g a zero h = run-none f a ∙ omega (arith, ints, run-none g a)
run-same f g a (suc n) h =
    omega (
      arith,
      ints,
      run-first f a n,
      run-first g a n,
      h a (omega arith) (omega arith),
      run-same f g (a + 1) n (λ t low high. h t (omega arith) (omega arith)),
    )

-- a sum of zeros
pub run-zero : (f : ℕ → ℤ) (a n : ℕ) → ((t : ℕ) → f t ≡ pos 0) → run f a n ≡ pos 0
run-zero f a zero h = run-none f a
run-zero f a (suc n) h = omega (arith, ints, run-first f a n, h a, run-zero f (a + 1) n h)

-- the negative of each number
pub run-neg : (f g : ℕ → ℤ) (a n : ℕ) → ((t : ℕ) → t < a + n → f t ≡ neg_ℤ (g t)) → run f a n ≡ neg_ℤ (run g a n)
run-neg f g a zero h = omega (arith, ints, run-none f a, run-none g a)
run-neg f g a (suc n) h =
    omega (arith, ints, run-first f a n, run-first g a n, h a (omega arith), run-neg f g (a + 1) n (λ t high. h t (omega arith)))

-- numbers that differ in one place alone
pub run-one : (f g : ℕ → ℤ) (a n at : ℕ) → a ≤ at → at < a + n → ((t : ℕ) → t ≢ at → f t ≡ g t) → run f a n +ℤ g at ≡ run g a n +ℤ f at
run-one f g a zero at low high h = absurd (omega arith)
run-one f g a (suc n) at low high h =
    elim (cases_eq a at) [
      | inl same ↦
          let rest : run f (a + 1) n ≡ run g (a + 1) n = run-same f g (a + 1) n (λ t after before. h t (omega arith)) in
          let there : f a ≡ f at = ap f same in
          let other : g a ≡ g at = ap g same in
          omega (arith, ints, run-first f a n, run-first g a n)
      | inr apart ↦
          omega (arith, ints, run-first f a n, run-first g a n, h a apart, run-one f g (a + 1) n at (omega arith) (omega arith) h)
    ]

-- small numbers have a small sum
pub run-high : (most : ℕ) (f : ℕ → ℤ) (a n : ℕ) → ((t : ℕ) → t < a + n → f t ≤ℤ pos most) → run f a n ≤ℤ pos (most * n)
run-high most f a zero h = omega (arith, ints, run-none f a)
run-high most f a (suc n) h =
    let more : most * suc n ≡ most * n + most = mul-suc most n in
    omega (arith, ints, run-first f a n, h a (omega arith), run-high most f (a + 1) n (λ t high. h t (omega arith)))

pub run-low : (most : ℕ) (f : ℕ → ℤ) (a n : ℕ) → ((t : ℕ) → t < a + n → neg_ℤ (pos most) ≤ℤ f t) → neg_ℤ (pos (most * n)) ≤ℤ run f a n
run-low most f a zero h = omega (arith, ints, run-none f a)
run-low most f a (suc n) h =
    let more : most * suc n ≡ most * n + most = mul-suc most n in
    omega (arith, ints, run-first f a n, h a (omega arith), run-low most f (a + 1) n (λ t high. h t (omega arith)))
