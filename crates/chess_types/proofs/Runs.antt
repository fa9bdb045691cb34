-- Tests over a run of numbers, and equal tests.
use Rattle.std.proofs.Common.{◌≡◌, ℕ, zero, suc, ◌+◌, ◌<◌, ◌≤◌, Bool, true, false, refl, sym, ap, ◌∙◌, arith, inl, inr, filter}
use Rattle.std.specs.List.{range_with_len, list_all, list_any}
use Rattle.std.proofs.lemmas.Bool.{and_parts, and_from, or_cases, cases_Bool, cases_eq, true≢false}

-- a test of each number of a run holds of one of them
pub list_all_at : (p : ℕ → Bool) (a n t : ℕ) → list_all p (range_with_len a n) ≡ true → a ≤ t → t < a + n → p t ≡ true
list_all_at p a zero t h low high = absurd (omega arith)
list_all_at p a (suc n) t h low high =
    let parts : (p a ≡ true) × (list_all p (range_with_len (a + 1) n) ≡ true) = and_parts _ _ h in
    elim (cases_eq a t) [
      | inl same ↦ ap p (sym same) ∙ parts.0
      | inr other ↦ list_all_at p (a + 1) n t parts.1 (omega arith) (omega arith)
    ]

-- and back
pub list_all_from : (p : ℕ → Bool) (a n : ℕ) → ((t : ℕ) → a ≤ t → t < a + n → p t ≡ true) → list_all p (range_with_len a n) ≡ true
list_all_from p a zero h = refl
list_all_from p a (suc n) h =
    and_from _ _ (h a (omega arith) (omega arith))
    (list_all_from p (a + 1) n (λ t low high. h t (omega arith) (omega arith)))

-- a test that one of them meets
pub list_any_from : (p : ℕ → Bool) (a n t : ℕ) → a ≤ t → t < a + n → p t ≡ true → list_any p (range_with_len a n) ≡ true
list_any_from p a zero t low high h = absurd (omega arith)
list_any_from p a (suc n) t low high h =
    elim (cases_eq a t) [
      | inl same ↦ let e : p a ≡ true = ap p same ∙ h in rw e refl
      | inr other ↦
          elim (cases_Bool (p a)) [
            | inl e ↦ rw e refl
            | inr e ↦ rw e (list_any_from p (a + 1) n t (omega arith) (omega arith) h)
          ]
    ]

-- and which
pub list_any_at : (p : ℕ → Bool) (a n : ℕ) → list_any p (range_with_len a n) ≡ true → (t : ℕ) × (a ≤ t) × (t < a + n) × (p t ≡ true)
list_any_at p a zero h = absurd (true≢false (sym h))
list_any_at p a (suc n) h =
    elim (or_cases (p a) (list_any p (range_with_len (a + 1) n)) h) [
      | inl e ↦ (a, omega arith, omega arith, e)
      | inr more ↦
          let (t, low, high, e) : (t : ℕ) × (a + 1 ≤ t) × (t < a + 1 + n) × (p t ≡ true) = list_any_at p (a + 1) n more in
          (t, omega arith, omega arith, e)
    ]

-- equal tests, from each to the other
pub same_test : (x y : Bool) → (x ≡ true → y ≡ true) → (y ≡ true → x ≡ true) → x ≡ y
same_test true y f g = sym (f refl)
same_test false true f g = g refl
same_test false false f g = refl

-- tests that agree over a run let the same numbers through
pub filter_agree : (p q : ℕ → Bool) (a n : ℕ) → ((i : ℕ) → a ≤ i → i < a + n → p i ≡ q i) → filter p (range_with_len a n) ≡ filter q (range_with_len a n)
filter_agree p q a zero same = refl
filter_agree p q a (suc n) same =
    let rest : filter p (range_with_len (a + 1) n) ≡ filter q (range_with_len (a + 1) n) = filter_agree p q (a + 1) n (λ i low high. same i (omega arith) (omega arith)) in
    let here : p a ≡ q a = same a (omega arith) (omega arith) in
    grind (arith, rest, here)
