-- Holes stay apart, so a heap with nothing in use is one hole.
use Rattle.std.proofs.Common.{◌≡◌, ℕ, ◌+◌, ◌-◌, ◌<◌, ◌≤◌, Bool, true, false, cond, ◌&&◌, leb, ltb, eqb, List, [], ◌∷◌, IsTrue, refl, sym, ap, subst, ◌∙◌, arith, le-leb, lt-ltb, leb-true, ltb-true, ltb-false, eqb-true}
use borrow.Author.Tests.{eqb-false}
use Rattle.lent_heap.specs.Region.{Region, bottom}
use Rattle.lent_heap.specs.Holes.{Span, total, shortened, taken_from, joined_first, released, extent, are_spaced}
use Rattle.lent_heap.proofs.Order.{InOrder, and_out, and_in, order_out, order_in, order_total}

abbrev pub Spaced : ℕ → List Span → Type 0
Spaced low hs = IsTrue (are_spaced low hs)

by_test : {X : Type 0} (t : Bool) → (t ≡ true → X) → (t ≡ false → X) → X
by_test true y n = y refl
by_test false y n = n refl

spaced_out : (low : ℕ) (h : Span) (hs : List Span) → Spaced low (h ∷ hs) → (low ≤ h.0) × (0 < h.1) × Spaced (h.0 + h.1 + 1) hs
spaced_out low h hs t =
    let first = and_out (leb low h.0) (ltb 0 h.1 && are_spaced (h.0 + h.1 + 1) hs) t in
    let rest = and_out (ltb 0 h.1) (are_spaced (h.0 + h.1 + 1) hs) first.1 in
    (leb-true low h.0 first.0, ltb-true 0 h.1 rest.0, rest.1)

pub spaced_in : (low : ℕ) (h : Span) (hs : List Span) → low ≤ h.0 → 0 < h.1 → Spaced (h.0 + h.1 + 1) hs → Spaced low (h ∷ hs)
spaced_in low h hs above some rest =
    and_in (leb low h.0) (ltb 0 h.1 && are_spaced (h.0 + h.1 + 1) hs) (le-leb low h.0 above) (and_in (ltb 0 h.1) (are_spaced (h.0 + h.1 + 1) hs) (lt-ltb 0 h.1 some) rest)

spaced_lower : (hs : List Span) (low low' : ℕ) → low' ≤ low → Spaced low hs → Spaced low' hs
spaced_lower [] low low' below t = refl
spaced_lower (h ∷ hs) low low' below t = let parts = spaced_out low h hs t in spaced_in low' h hs (omega (arith, parts.0)) parts.1 parts.2

pub taken_spaced : (n : ℕ) (hs : List Span) (low : ℕ) → Spaced low hs → Spaced low (taken_from n hs)
taken_spaced n [] low t = refl
taken_spaced n (h ∷ hs) low t =
    let parts = spaced_out low h hs t in
    let above = parts.0 in
    by_test (leb n h.1)
    (λ e. let large = leb-true n h.1 e in subst (Spaced low) (sym (ap (λ (u : Bool). cond u (shortened n h hs) (h ∷ taken_from n hs)) e))
    (by_test (eqb h.1 n)
    (λ f. subst (Spaced low) (sym (ap (λ (u : Bool). cond u hs ((h.0 + n, h.1 - n) ∷ hs)) f)) (spaced_lower hs (h.0 + h.1 + 1) low (omega arith) parts.2))
    (λ f. let other = eqb-false h.1 n f in subst (Spaced low) (sym (ap (λ (u : Bool). cond u hs ((h.0 + n, h.1 - n) ∷ hs)) f))
    (spaced_in low (h.0 + n, h.1 - n) hs (omega arith) (omega arith) (spaced_lower hs (h.0 + h.1 + 1) (h.0 + n + (h.1 - n) + 1) (omega arith) parts.2)))))
    (λ e. subst (Spaced low) (sym (ap (λ (u : Bool). cond u (shortened n h hs) (h ∷ taken_from n hs)) e)) (spaced_in low h (taken_from n hs) parts.0 parts.1 (taken_spaced n hs (h.0 + h.1 + 1) parts.2)))

joined_spaced : (s : Span) (hs : List Span) (low from at high : ℕ) → low ≤ s.0 → 0 < s.1 → Spaced from hs → InOrder at high (joined_first s hs) → Spaced low (joined_first s hs)
joined_spaced s [] low from at high above some t sorted = spaced_in low s [] above some refl
joined_spaced s (h ∷ hs) low from at high above some t sorted =
    let parts = spaced_out from h hs t in
    let pick : Bool → List Span = λ u. cond u ((s.0, s.1 + h.1) ∷ hs) (s ∷ h ∷ hs) in
    by_test (eqb (s.0 + s.1) h.0)
    (λ e. let touch = eqb-true (s.0 + s.1) h.0 e in subst (Spaced low) (sym (ap pick e))
    (spaced_in low (s.0, s.1 + h.1) hs above (omega arith) (spaced_lower hs (h.0 + h.1 + 1) (s.0 + (s.1 + h.1) + 1) (omega arith) parts.2)))
    (λ e. let gap = eqb-false (s.0 + s.1) h.0 e in
    let ends = (order_out (s.0 + extent s.1) high h hs (order_out at high s (h ∷ hs) (subst (InOrder at high) (ap pick e) sorted)).2).0 in
    subst (Spaced low) (sym (ap pick e)) (spaced_in low s (h ∷ hs) above some (spaced_in (s.0 + s.1 + 1) h hs (omega arith) parts.1 parts.2)))

abbrev past : Span → Span → List Span → List Span
past s h hs = cond (eqb (h.0 + h.1) s.0) (joined_first (h.0, h.1 + s.1) hs) (h ∷ released s hs)

joined_above : (s : Span) (hs : List Span) (at high : ℕ) → InOrder at high (joined_first s hs) → at ≤ s.0
joined_above s [] at high sorted = (order_out at high s [] sorted).0
joined_above s (h ∷ hs) at high sorted =
    let pick : Bool → List Span = λ u. cond u ((s.0, s.1 + h.1) ∷ hs) (s ∷ h ∷ hs) in
    by_test (eqb (s.0 + s.1) h.0) (λ e. (order_out at high (s.0, s.1 + h.1) hs (subst (InOrder at high) (ap pick e) sorted)).0)
    (λ e. (order_out at high s (h ∷ hs) (subst (InOrder at high) (ap pick e) sorted)).0)

released_above : (s : Span) (hs : List Span) (at high : ℕ) → InOrder at high (released s hs) → at ≤ s.0
released_above s [] at high sorted = (order_out at high s [] sorted).0
released_above s (h ∷ hs) at high sorted =
    let pick : Bool → List Span = λ u. cond u (joined_first s (h ∷ hs)) (past s h hs) in
    let pick' : Bool → List Span = λ u. cond u (joined_first (h.0, h.1 + s.1) hs) (h ∷ released s hs) in
    by_test (ltb s.0 h.0) (λ e. joined_above s (h ∷ hs) at high (subst (InOrder at high) (ap pick e) sorted))
    (λ e. let below = ltb-false s.0 h.0 e in let on = subst (InOrder at high) (ap pick e) sorted in
    by_test (eqb (h.0 + h.1) s.0) (λ f. omega (arith, joined_above (h.0, h.1 + s.1) hs at high (subst (InOrder at high) (ap pick' f) on)))
    (λ f. omega (arith, (order_out at high h (released s hs) (subst (InOrder at high) (ap pick' f) on)).0)))

pub released_spaced : (s : Span) (hs : List Span) (low at high : ℕ) → low ≤ s.0 → 0 < s.1 → Spaced low hs → InOrder at high (released s hs) → Spaced low (released s hs)
released_spaced s [] low at high above some t sorted = spaced_in low s [] above some refl
released_spaced s (h ∷ hs) low at high above some t sorted =
    let parts = spaced_out low h hs t in
    let pick : Bool → List Span = λ u. cond u (joined_first s (h ∷ hs)) (past s h hs) in
    let pick' : Bool → List Span = λ u. cond u (joined_first (h.0, h.1 + s.1) hs) (h ∷ released s hs) in
    by_test (ltb s.0 h.0)
    (λ e. subst (Spaced low) (sym (ap pick e)) (joined_spaced s (h ∷ hs) low low at high above some t (subst (InOrder at high) (ap pick e) sorted)))
    (λ e. let on = subst (InOrder at high) (ap pick e) sorted in subst (Spaced low) (sym (ap pick e))
    (by_test (eqb (h.0 + h.1) s.0)
    (λ f. subst (Spaced low) (sym (ap pick' f)) (joined_spaced (h.0, h.1 + s.1) hs low (h.0 + h.1 + 1) at high parts.0 (omega arith) parts.2 (subst (InOrder at high) (ap pick' f) on)))
    (λ f. let gap = eqb-false (h.0 + h.1) s.0 f in
    let rest = (order_out at high h (released s hs) (subst (InOrder at high) (ap pick' f) on)).2 in
    let ends = released_above s hs (h.0 + extent h.1) high rest in
    subst (Spaced low) (sym (ap pick' f)) (spaced_in low h (released s hs) parts.0 parts.1 (released_spaced s hs (h.0 + h.1 + 1) (h.0 + extent h.1) high (omega arith) some parts.2 rest)))))

one_hole : (low high : ℕ) (hs : List Span) → low < high → Spaced low hs → InOrder low high hs → low + total hs ≡ high → hs ≡ (low, high - low) ∷ []
one_hole low high [] wide t sorted all = absurd (omega arith)
one_hole low high (h ∷ []) wide t sorted all =
    let parts = order_out low high h [] sorted in
    let ends = leb-true (h.0 + extent h.1) high parts.2 in
    let at : h.0 ≡ low = omega (arith, parts.0) in
    let size : h.1 ≡ high - low = omega arith in
    λ i. (at i, size i) ∷ []
one_hole low high (h ∷ k ∷ hs) wide t sorted all =
    let parts = spaced_out low h (k ∷ hs) t in
    let gap = (spaced_out (h.0 + h.1 + 1) k hs parts.2).0 in
    let next = order_out (h.0 + extent h.1) high k hs (order_out low high h (k ∷ hs) sorted).2 in
    let rest = order_total (k ∷ hs) k.0 high (order_in k.0 high k hs (omega arith) next.1 next.2) in
    absurd (omega (arith, parts.0))

pub all_free : (r : Region) (hs : List Span) (bytes : ℕ) → 32 ≤ bytes → r.start + bytes ≡ r.end → Spaced (bottom r) hs → InOrder r.start r.end ((r.start, 0) ∷ hs) → total hs + 16 ≡ bytes → hs ≡ (bottom r, bytes - 16) ∷ []
all_free r hs bytes large whole t sorted all =
    one_hole (bottom r) r.end hs (omega arith) t (order_out r.start r.end (r.start, 0) hs sorted).2 (omega arith) ∙ ap (λ (n : ℕ). (bottom r, n) ∷ []) (omega arith)
