-- Sums over a run of numbers.
use Rattle.std.proofs.Common.{◌≡◌, ℕ, zero, suc, ◌+◌, ◌<◌, ◌≤◌, ◌≢◌, Bool, true, false, cond, eqb, refl, sym, ap, ◌∙◌, arith, inl, inr, sum_by}
use Rattle.std.proofs.lemmas.Bool.{cases_eq, eq-eqb, ne_eqb}
use Rattle.std.specs.List.{range_with_len}
use Rattle.std.proofs.lemmas.List.Sums.{sum_by-cons}

-- 1 where the test holds, else 0
abbrev pub bit : Bool → ℕ
bit b = cond b 1 0

-- f a + f (a + 1) + .. , n of them
unfoldable pub total : (ℕ → ℕ) → ℕ → ℕ → ℕ
total f a zero = 0
total f a (suc n) = f a + total f (a + 1) n

pub sum_by-range : (f : ℕ → ℕ) (a n : ℕ) → sum_by f (range_with_len a n) ≡ total f a n
unfolding total
sum_by-range f a zero = refl
sum_by-range f a (suc n) = sum_by-cons f a (range_with_len (a + 1) n) ∙ ap (λ x. f a + x) (sum_by-range f (a + 1) n)

pub total-none : (f : ℕ → ℕ) (a : ℕ) → total f a 0 ≡ 0
unfolding total
total-none f a = refl

-- one number more
pub total-more : (f : ℕ → ℕ) (a n : ℕ) → total f a (suc n) ≡ total f a n + f (a + n)
unfolding total
total-more f a zero = let e : f (a + 0) ≡ f a = ap f (omega arith) in omega arith
total-more f a (suc n) =
    let rest : total f (a + 1) (suc n) ≡ total f (a + 1) n + f (a + 1 + n) = total-more f (a + 1) n in
    let e : f (a + 1 + n) ≡ f (a + suc n) = ap f (omega arith) in
    omega arith

-- a sum of ones and zeros is at most their number
pub total-small : (f : ℕ → ℕ) (a n : ℕ) → ((x : ℕ) → f x ≤ 1) → total f a n ≤ n
unfolding total
total-small f a zero h = omega arith
total-small f a (suc n) h = omega (arith, h a, total-small f (a + 1) n h)

-- a sum of zeros
pub total-zero : (f : ℕ → ℕ) (a n : ℕ) → ((x : ℕ) → f x ≡ 0) → total f a n ≡ 0
unfolding total
total-zero f a zero h = refl
total-zero f a (suc n) h = omega (arith, h a, total-zero f (a + 1) n h)

-- the same values, the same sum
pub total-agree : (f g : ℕ → ℕ) (a n : ℕ) → ((x : ℕ) → a ≤ x → x < a + n → f x ≡ g x) → total f a n ≡ total g a n
unfolding total
total-agree f g a zero h = refl
total-agree f g a (suc n) h =
    let here : f a ≡ g a = h a (omega arith) (omega arith) in
    let rest : total f (a + 1) n ≡ total g (a + 1) n =
    total-agree f g (a + 1) n (λ x low high. h x (omega arith) (omega arith)) in
    omega arith

-- the values differ at one place
pub total-one :
    (f g : ℕ → ℕ) (i a n : ℕ) → a ≤ i → i < a + n → ((x : ℕ) → a ≤ x → x < a + n → x ≢ i → f x ≡ g x) →
    total f a n + g i ≡ total g a n + f i
unfolding total
total-one f g i a zero low high h = absurd (omega arith)
total-one f g i a (suc n) low high h =
    elim (cases_eq a i) [
      | inl same ↦
          let rest : total f (a + 1) n ≡ total g (a + 1) n =
          total-agree f g (a + 1) n (λ x lo hi. h x (omega arith) (omega arith) (omega arith)) in
          let e : f a ≡ f i = ap f same in
          let e' : g a ≡ g i = ap g same in
          omega arith
      | inr other ↦
          let here : f a ≡ g a = h a (omega arith) (omega arith) other in
          let rest : total f (a + 1) n + g i ≡ total g (a + 1) n + f i =
          total-one f g i (a + 1) n (omega arith) (omega arith) (λ x lo hi ne. h x (omega arith) (omega arith) ne) in
          omega arith
    ]

-- the values differ at two places
pub total-two :
    (f g : ℕ → ℕ) (i j a n : ℕ) → i ≢ j → a ≤ i → i < a + n → a ≤ j → j < a + n →
    ((x : ℕ) → a ≤ x → x < a + n → x ≢ i → x ≢ j → f x ≡ g x) →
    total f a n + g i + g j ≡ total g a n + f i + f j
total-two f g i j a n apart lowi highi lowj highj h =
    let mid : ℕ → ℕ = λ x. cond (eqb x i) (g x) (f x) in
    let at_i : mid i ≡ g i = rw (eq-eqb i i refl) refl in
    let others : (x : ℕ) → x ≢ i → mid x ≡ f x = λ x ne. rw (ne_eqb x i ne) refl in
    let at_j : mid j ≡ f j = others j (λ e. apart (sym e)) in
    let first : total f a n + mid i ≡ total mid a n + f i =
    total-one f mid i a n lowi highi (λ x lo hi ne. sym (others x ne)) in
    let second : total mid a n + g j ≡ total g a n + mid j =
    total-one mid g j a n lowj highj (λ x lo hi ne.
    elim (cases_eq x i) [
      | inl same ↦ rw (eq-eqb x i same) refl
      | inr other ↦ others x other ∙ h x lo hi other ne
    ]) in
    omega arith

-- a sum that is nowhere larger
pub total-le : (f g : ℕ → ℕ) (a n : ℕ) → ((x : ℕ) → a ≤ x → x < a + n → f x ≤ g x) → total f a n ≤ total g a n
unfolding total
total-le f g a zero h = omega arith
total-le f g a (suc n) h =
    let here : f a ≤ g a = h a (omega arith) (omega arith) in
    let rest : total f (a + 1) n ≤ total g (a + 1) n =
    total-le f g (a + 1) n (λ x low high. h x (omega arith) (omega arith)) in
    omega arith

pub total-add : (f g : ℕ → ℕ) (a n : ℕ) → total (λ x. f x + g x) a n ≡ total f a n + total g a n
unfolding total
total-add f g a zero = refl
total-add f g a (suc n) = omega (arith, total-add f g (a + 1) n)

pub total-at : (f : ℕ → ℕ) (i a n : ℕ) → a ≤ i → i < a + n → f i ≤ total f a n
unfolding total
total-at f i a zero low high = absurd (omega arith)
total-at f i a (suc n) low high =
    elim (cases_eq a i) [
      | inl same ↦ let e : f a ≡ f i = ap f same in omega arith
      | inr other ↦ let rest : f i ≤ total f (a + 1) n = total-at f i (a + 1) n (omega arith) (omega arith) in omega arith
    ]

pub bit_small : (b : Bool) → bit b ≤ 1
bit_small true = omega arith
bit_small false = omega arith
