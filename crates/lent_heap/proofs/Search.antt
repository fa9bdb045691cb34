-- What the two loops keep: the nodes that were passed change nothing in what is found.
use Rattle.std.proofs.Common.{◌≡◌, ℕ, ◌+◌, ◌-◌, ◌<◌, ◌≤◌, Bool, true, false, cond, ◌||◌, leb, ltb, eqb, List, [], ◌∷◌, ◌++◌, refl, sym, ap, ◌∙◌, arith, append_assoc, true≢false, le-ltb, lt-ltb, ne_eqb}
use borrow.Author.Tests.{leb-true, eqb-true, ltb-false}
use Rattle.lent_heap.specs.Region.{Region}
use Rattle.lent_heap.specs.Holes.{Span, total, has_hole, HasHole, first_fit, shortened, taken_from, joined_first, released, extent, IsCursor, Precedes, Inserts, merged}
use Rattle.lent_heap.proofs.Order.{InOrder, order_out, order_bound, order_total}

abbrev tail : List Span → List Span
tail [] = []
tail (h ∷ hs) = hs

by_test : {X : Type 0} (t : Bool) → (t ≡ true → X) → (t ≡ false → X) → X
by_test true y n = y refl
by_test false y n = n refl

snoc : (before : List Span) (c : Span) (rest : List Span) → (before ++ c ∷ []) ++ rest ≡ before ++ c ∷ rest
snoc before c rest = append_assoc before (c ∷ []) rest

-- d is the dummy, and hs are the holes at the start
pub record Sought (n : ℕ) (d : Span) (hs before : List Span) (c : Span) (after : List Span) : Type 0 where
  pub found : has_hole n hs ≡ has_hole n after
  pub place : first_fit n hs ≡ first_fit n after
  pub left : d ∷ taken_from n hs ≡ before ++ c ∷ taken_from n after

pub taken_total : (n : ℕ) (hs : List Span) → HasHole n hs → total (taken_from n hs) + n ≡ total hs
taken_total n [] some = absurd (true≢false (sym some))
taken_total n (h ∷ hs) some =
    by_test (leb n h.1)
    (λ t. let large = leb-true n h.1 t in let cut : taken_from n (h ∷ hs) ≡ shortened n h hs = ap (λ (u : Bool). cond u (shortened n h hs) (h ∷ taken_from n hs)) t in
    by_test (eqb h.1 n)
    (λ e. omega (arith, eqb-true h.1 n e, ap total (cut ∙ ap (λ (u : Bool). cond u hs ((h.0 + n, h.1 - n) ∷ hs)) e)))
    (λ e. let less : total (taken_from n (h ∷ hs)) ≡ h.1 - n + total hs = ap total (cut ∙ ap (λ (u : Bool). cond u hs ((h.0 + n, h.1 - n) ∷ hs)) e) in omega arith))
    (λ t. let kept : total (taken_from n (h ∷ hs)) ≡ h.1 + total (taken_from n hs) = ap total (ap (λ (u : Bool). cond u (shortened n h hs) (h ∷ taken_from n hs)) t) in
    omega (arith, taken_total n hs (sym (ap (λ (u : Bool). u || has_hole n hs) t) ∙ some)))

pub taken_none : (n : ℕ) (hs : List Span) → ¬ HasHole n hs → taken_from n hs ≡ hs
taken_none n [] none = refl
taken_none n (h ∷ hs) none =
    by_test (leb n h.1) (λ t. absurd (none (ap (λ (u : Bool). u || has_hole n hs) t)))
    (λ t. ap (λ (u : Bool). cond u (shortened n h hs) (h ∷ taken_from n hs)) t ∙ ap (λ (l : List Span). h ∷ l) (taken_none n hs (λ some. none (ap (λ (u : Bool). u || has_hole n hs) t ∙ some))))

joined_total : (s : Span) (hs : List Span) → total (joined_first s hs) ≡ s.1 + total hs
joined_total s [] = refl
joined_total s (h ∷ hs) =
    by_test (eqb (s.0 + s.1) h.0)
    (λ t. let one : total (joined_first s (h ∷ hs)) ≡ s.1 + h.1 + total hs = ap total (ap (λ (u : Bool). cond u ((s.0, s.1 + h.1) ∷ hs) (s ∷ h ∷ hs)) t) in omega arith)
    (λ t. ap total (ap (λ (u : Bool). cond u ((s.0, s.1 + h.1) ∷ hs) (s ∷ h ∷ hs)) t))

abbrev past : Span → Span → List Span → List Span
past s h hs = cond (eqb (h.0 + h.1) s.0) (joined_first (h.0, h.1 + s.1) hs) (h ∷ released s hs)

released_past : (s h : Span) (hs : List Span) → h.0 ≤ s.0 → released s (h ∷ hs) ≡ past s h hs
released_past s h hs below = ap (λ (u : Bool). cond u (joined_first s (h ∷ hs)) (past s h hs)) (le-ltb s.0 h.0 below)

released_apart : (s h : Span) (hs : List Span) → h.0 ≤ s.0 → (h.0 + h.1 ≡ s.0 → ⊥) → released s (h ∷ hs) ≡ h ∷ released s hs
released_apart s h hs below gap = released_past s h hs below ∙ ap (λ (u : Bool). cond u (joined_first (h.0, h.1 + s.1) hs) (h ∷ released s hs)) (ne_eqb (h.0 + h.1) s.0 gap)

pub released_total : (s : Span) (hs : List Span) → total (released s hs) ≡ s.1 + total hs
released_total s [] = refl
released_total s (h ∷ hs) =
    by_test (ltb s.0 h.0) (λ t. ap total (ap (λ (u : Bool). cond u (joined_first s (h ∷ hs)) (past s h hs)) t) ∙ joined_total s (h ∷ hs))
    (λ t. let on = released_past s h hs (ltb-false s.0 h.0 t) in
    by_test (eqb (h.0 + h.1) s.0)
    (λ e. omega (arith, ap total (on ∙ ap (λ (u : Bool). cond u (joined_first (h.0, h.1 + s.1) hs) (h ∷ released s hs)) e), joined_total (h.0, h.1 + s.1) hs))
    (λ e. let kept : total (released s (h ∷ hs)) ≡ h.1 + total (released s hs) = ap total (on ∙ ap (λ (u : Bool). cond u (joined_first (h.0, h.1 + s.1) hs) (h ∷ released s hs)) e) in
    omega (arith, released_total s hs)))

-- nodes that end at or before a place below s are kept
released_after : (s : Span) (before rest : List Span) (low mid : ℕ) → InOrder low mid before → mid < s.0 → released s (before ++ rest) ≡ before ++ released s rest
released_after s [] rest low mid t below = refl
released_after s (h ∷ hs) rest low mid t below =
    let parts = order_out low mid h hs t in
    let ends = order_bound hs (h.0 + extent h.1) mid parts.2 in
    released_apart s h (hs ++ rest) (omega arith) (λ touch. omega arith) ∙ ap (λ (l : List Span). h ∷ l) (released_after s hs rest (h.0 + extent h.1) mid parts.2 below)

released_first : (s : Span) (after : List Span) → Precedes s after → released s after ≡ joined_first s after
released_first s [] first = refl
released_first s (h ∷ hs) first = ap (λ (u : Bool). cond u (joined_first s (h ∷ hs)) (past s h hs)) (lt-ltb s.0 h.0 first)

abbrev pub nodes : List Span × Span × List Span → List Span
nodes m = m.0 ++ m.1 ∷ m.2

merged_joins : (before : List Span) (c : Span) (after : List Span) → nodes (merged before c after) ≡ before ++ joined_first c after
merged_joins before c [] = refl
merged_joins before c (h ∷ hs) =
    by_test (eqb (c.0 + c.1) h.0)
    (λ t. ap (λ (u : Bool). nodes (cond u (before, (c.0, c.1 + h.1), hs) (before ++ c ∷ [], h, hs))) t ∙ sym (ap (λ (u : Bool). before ++ cond u ((c.0, c.1 + h.1) ∷ hs) (c ∷ h ∷ hs)) t))
    (λ t. ap (λ (u : Bool). nodes (cond u (before, (c.0, c.1 + h.1), hs) (before ++ c ∷ [], h, hs))) t ∙ snoc before c (h ∷ hs) ∙ sym (ap (λ (u : Bool). before ++ cond u ((c.0, c.1 + h.1) ∷ hs) (c ∷ h ∷ hs)) t))

-- two steps of merging after the insertion give what `released` says
merged_twice : (s : Span) (before : List Span) (c : Span) (after : List Span) (m : List Span × Span × List Span) → c.0 ≤ s.0 → Precedes s after → m ≡ merged before c (s ∷ after)
    → nodes (merged m.0 m.1 m.2) ≡ before ++ released s (c ∷ after)
merged_twice s before c after m below first is =
    let step : List Span × Span × List Span → List Span = λ k. nodes (merged k.0 k.1 k.2) in
    let on = released_past s c after below in
    by_test (eqb (c.0 + c.1) s.0)
    (λ t. ap step (is ∙ ap (λ (u : Bool). cond u (before, (c.0, c.1 + s.1), after) (before ++ c ∷ [], s, after)) t) ∙ merged_joins before (c.0, c.1 + s.1) after
    ∙ sym (ap (λ (l : List Span). before ++ l) (on ∙ ap (λ (u : Bool). cond u (joined_first (c.0, c.1 + s.1) after) (c ∷ released s after)) t)))
    (λ t. ap step (is ∙ ap (λ (u : Bool). cond u (before, (c.0, c.1 + s.1), after) (before ++ c ∷ [], s, after)) t) ∙ merged_joins (before ++ c ∷ []) s after ∙ snoc before c (joined_first s after)
    ∙ sym (ap (λ (l : List Span). before ++ l) (on ∙ ap (λ (u : Bool). cond u (joined_first (c.0, c.1 + s.1) after) (c ∷ released s after)) t ∙ ap (λ (l : List Span). c ∷ l) (released_first s after first))))

pub releases : (r : Region) (s : Span) (hs before : List Span) (c : Span) (after after' : List Span) (m m' : List Span × Span × List Span) (out : List Span)
    → r.start < s.0 → (r.start, 0) ∷ hs ≡ before ++ c ∷ after → IsCursor r before c after → Inserts s c after after' → m ≡ merged before c after' → m' ≡ merged m.0 m.1 m.2
    → (r.start, 0) ∷ out ≡ nodes m' → out ≡ released s hs
releases r s hs before c after after' m m' out above all sorted put once twice same =
    let gap = put.1 in
    ap tail (same ∙ ap nodes twice ∙ merged_twice s before c after m (omega arith) put.2 (once ∙ ap (merged before c) put.0)
    ∙ sym (released_after s before (c ∷ after) r.start c.0 sorted.0 (omega arith)) ∙ ap (released s) (sym all) ∙ released_apart s (r.start, 0) hs (omega arith) (λ touch. omega arith))

-- the holes lie in the region, so a block that joins them was counted as used
pub freed_count : (r : Region) (s : Span) (hs out : List Span) (used bytes : ℕ) → InOrder r.start r.end ((r.start, 0) ∷ out) → out ≡ released s hs → r.start + bytes ≡ r.end
    → used + total hs + 16 ≡ bytes → (s.1 ≤ used) × (used - s.1 + total out + 16 ≡ bytes)
freed_count r s hs out used bytes sorted is whole counted =
    let inside = order_total out (r.start + 16) r.end (order_out r.start r.end (r.start, 0) out sorted).2 in
    let more : total out ≡ s.1 + total hs = ap total is ∙ released_total s hs in
    (omega arith, omega arith)
