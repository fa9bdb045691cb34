-- Pairs of numbers counted by rows are the same counted by columns: where each column has one pair that passes or none, the pairs are
-- as many as the columns that have one.
use Rattle.std.proofs.Common.{◌≡◌, ℕ, zero, suc, ◌+◌, ◌<◌, ◌≤◌, ◌≢◌, Bool, true, false, ◌&&◌, refl, sym, ap, ◌∙◌, arith, inl, inr}
use Rattle.std.proofs.lemmas.Bool.{cases_Bool, cases_eq}
use Rattle.std.proofs.Math.Bool.{and-true, and-false}
use Rattle.chess_types.proofs.Sums.{bit, total, total-zero, total-add, total-agree}

-- a sum of sums, the other way
pub total-swap : (f : ℕ → ℕ → ℕ) (a n b m : ℕ) → total (λ x. total (f x) b m) a n ≡ total (λ y. total (λ x. f x y) a n) b m
unfolding total
total-swap f a zero b m = sym (total-zero (λ y. 0) b m (λ y. refl))
total-swap f a (suc n) b m =
    ap (λ r. total (f a) b m + r) (total-swap f (a + 1) n b m) ∙ sym (total-add (f a) (λ y. total (λ x. f x y) (a + 1) n) b m)

-- one value alone isn't 0
pub total-only : (f : ℕ → ℕ) (i a n : ℕ) → a ≤ i → i < a + n → ((x : ℕ) → a ≤ x → x < a + n → x ≢ i → f x ≡ 0) → total f a n ≡ f i
unfolding total
total-only f i a zero low high h = absurd (omega arith)
total-only f i a (suc n) low high h =
    elim (cases_eq a i) [
      | inl same ↦
          let rest : total f (a + 1) n ≡ total (λ x. 0) (a + 1) n = total-agree f (λ x. 0) (a + 1) n (λ x lo hi. h x (omega arith) (omega arith) (omega arith)) in
          let e : f a ≡ f i = ap f same in
          omega (arith, rest, e, total-zero (λ x. 0) (a + 1) n (λ x. refl))
      | inr other ↦
          let rest : total f (a + 1) n ≡ f i = total-only f i (a + 1) n (omega arith) (omega arith) (λ x lo hi ne. h x (omega arith) (omega arith) ne) in
          omega (arith, rest, h a (omega arith) (omega arith) other)
    ]

-- one square passes the test, and s says so; or none does, and s says that
pub record Column (test : ℕ → Bool) (s : Bool) : Type 0 where
  pub one : s ≡ true → (i : ℕ) × (i < 64) × (test i ≡ true) × ((a : ℕ) → a < 64 → test a ≡ true → a ≡ i)
  pub none : s ≡ false → (a : ℕ) → a < 64 → test a ≡ false

pub column : (test : ℕ → Bool) (s : Bool) → Column test s → total (λ a. bit (test a)) 0 64 ≡ bit s
column test s c =
    elim (cases_Bool s) [
      | inl held ↦
          let (i, on_board, here, only) = c.one held in
          total-only (λ a. bit (test a)) i 0 64 (omega arith) on_board (λ x lo hi ne.
          elim (cases_Bool (test x)) [
            | inl e ↦ absurd (ne (only x (omega arith) e))
            | inr e ↦ ap bit e
          ]) ∙ ap bit here ∙ sym (ap bit held)
      | inr out ↦
          total-agree (λ a. bit (test a)) (λ a. 0) 0 64 (λ a lo hi. ap bit (c.none out a (omega arith))) ∙ total-zero (λ a. 0) 0 64 (λ a. refl) ∙ sym (ap bit out)
    ]

-- pairs counted by rows, of those columns that pass
pub exchange :
    (pairs : ℕ → ℕ → Bool) (set good : ℕ → Bool) → ((b : ℕ) → b < 64 → Column (λ a. pairs a b) (set b)) →
    total (λ a. total (λ b. bit (pairs a b && good b)) 0 64) 0 64 ≡ total (λ b. bit (set b && good b)) 0 64
exchange pairs set good columns =
    total-swap (λ a b. bit (pairs a b && good b)) 0 64 0 64
    ∙ total-agree (λ b. total (λ a. bit (pairs a b && good b)) 0 64) (λ b. bit (set b && good b)) 0 64 (λ b lo hi.
    elim (cases_Bool (good b)) [
      | inl on ↦
          total-agree (λ a. bit (pairs a b && good b)) (λ a. bit (pairs a b)) 0 64 (λ a la ha. ap bit (ap (λ g. pairs a b && g) on ∙ and-true (pairs a b)))
          ∙ column (λ a. pairs a b) (set b) (columns b (omega arith)) ∙ sym (ap bit (ap (λ g. set b && g) on ∙ and-true (set b)))
      | inr off ↦
          total-agree (λ a. bit (pairs a b && good b)) (λ a. 0) 0 64 (λ a la ha. ap bit (ap (λ g. pairs a b && g) off ∙ and-false (pairs a b)))
          ∙ total-zero (λ a. 0) 0 64 (λ a. refl) ∙ sym (ap bit (ap (λ g. set b && g) off ∙ and-false (set b)))
    ])
