-- The nodes stay in order under each step of a cursor.
use Rattle.std.proofs.Common.{◌≡◌, ℕ, ◌+◌, ◌-◌, ◌%◌, ◌<◌, ◌≤◌, Bool, true, false, ◌&&◌, List, [], ◌∷◌, ◌++◌, IsTrue, leb, eqb, refl, sym, ap, subst, ◌∙◌, arith, true≢false, le-leb, leb-true, eq-eqb, eqb-true}
use Rattle.lent_heap.specs.Region.{Region, bottom, IsBlockSize}
use Rattle.lent_heap.specs.Holes.{Span, total, extent, in_order, first_node, IsCursor}

pub and_out : (x y : Bool) → IsTrue (x && y) → IsTrue x × IsTrue y
and_out true y t = (refl, t)
and_out false y t = absurd (true≢false (sym t))

pub and_in : (x y : Bool) → IsTrue x → IsTrue y → IsTrue (x && y)
and_in true y s t = t
and_in false y s t = s

abbrev pub InOrder : ℕ → ℕ → List Span → Type 0
InOrder low high hs = IsTrue (in_order low high hs)

pub order_out : (low high : ℕ) (h : Span) (hs : List Span) → InOrder low high (h ∷ hs) → (low ≤ h.0) × (h.1 % 16 ≡ 0) × InOrder (h.0 + extent h.1) high hs
order_out low high h hs t =
    let first = and_out (leb low h.0) (eqb (h.1 % 16) 0 && in_order (h.0 + extent h.1) high hs) t in
    let rest = and_out (eqb (h.1 % 16) 0) (in_order (h.0 + extent h.1) high hs) first.1 in
    (leb-true low h.0 first.0, eqb-true (h.1 % 16) 0 rest.0, rest.1)

pub order_in : (low high : ℕ) (h : Span) (hs : List Span) → low ≤ h.0 → h.1 % 16 ≡ 0 → InOrder (h.0 + extent h.1) high hs → InOrder low high (h ∷ hs)
order_in low high h hs above units rest =
    and_in (leb low h.0) (eqb (h.1 % 16) 0 && in_order (h.0 + extent h.1) high hs) (le-leb low h.0 above)
    (and_in (eqb (h.1 % 16) 0) (in_order (h.0 + extent h.1) high hs) (eq-eqb (h.1 % 16) 0 units) rest)

-- the holes take no more than the room that they lie in
pub order_total : (hs : List Span) (low high : ℕ) → InOrder low high hs → low + total hs ≤ high
order_total [] low high t = omega (arith, leb-true low high t)
order_total (h ∷ hs) low high t = let parts = order_out low high h hs t in omega (arith, parts.0, order_total hs (h.0 + extent h.1) high parts.2)

pub order_bound : (hs : List Span) (low high : ℕ) → InOrder low high hs → low ≤ high
order_bound hs low high t = omega (arith, order_total hs low high t)

pub order_lower : (hs : List Span) (low low' high : ℕ) → low' ≤ low → InOrder low high hs → InOrder low' high hs
order_lower [] low low' high below t = le-leb low' high (omega (arith, leb-true low high t))
order_lower (h ∷ hs) low low' high below t = let parts = order_out low high h hs t in order_in low' high h hs (omega (arith, parts.0)) parts.1 parts.2

order_append : (xs ys : List Span) (low mid high : ℕ) → InOrder low mid xs → InOrder mid high ys → InOrder low high (xs ++ ys)
order_append [] ys low mid high s t = order_lower ys mid low high (leb-true low mid s) t
order_append (x ∷ xs) ys low mid high s t =
    let parts = order_out low mid x xs s in order_in low high x (xs ++ ys) parts.0 parts.1 (order_append xs ys (x.0 + extent x.1) mid high parts.2 t)

first_kept : (before : List Span) (c h : Span) → first_node (before ++ c ∷ []) h ≡ first_node before c
first_kept [] c h = refl
first_kept (x ∷ xs) c h = refl

abbrev pub holes_of : List Span → Span → List Span → List Span
holes_of [] c after = after
holes_of (x ∷ xs) c after = xs ++ c ∷ after

nodes_are : (before : List Span) (c : Span) (after : List Span) → first_node before c ∷ holes_of before c after ≡ before ++ c ∷ after
nodes_are [] c after = refl
nodes_are (x ∷ xs) c after = refl

module _ (r : Region) (before : List Span) (c : Span) where
  pub listed : (after : List Span) → IsCursor r before c after
      → ((r.start, 0) ∷ holes_of before c after ≡ before ++ c ∷ after) × InOrder r.start r.end ((r.start, 0) ∷ holes_of before c after)
  listed after is =
      let same : (r.start, 0) ∷ holes_of before c after ≡ before ++ c ∷ after = ap (λ (d : Span). d ∷ holes_of before c after) (sym is.2) ∙ nodes_are before c after in
      (same, subst (InOrder r.start r.end) (sym same) (order_append before (c ∷ after) r.start c.0 r.end is.0 is.1))

  pub current_facts : (after : List Span) → IsCursor r before c after → (r.start ≤ c.0) × (c.1 % 16 ≡ 0) × (c.0 + extent c.1 ≤ r.end)
  current_facts after is = let parts = order_out c.0 r.end c after is.1 in (order_bound before r.start c.0 is.0, parts.1, order_bound after (c.0 + extent c.1) r.end parts.2)

  pub inserted_last : (s : Span) → IsCursor r before c [] → IsBlockSize s.1 → c.0 + extent c.1 ≤ s.0 → s.0 + s.1 ≤ r.end → IsCursor r before c (s ∷ [])
  inserted_last s is sized above below =
      let parts = order_out c.0 r.end c [] is.1 in
      (is.0, order_in c.0 r.end c (s ∷ []) parts.0 parts.1 (order_in (c.0 + extent c.1) r.end s [] above sized.1 (le-leb (s.0 + extent s.1) r.end (omega (arith, sized.0)))), is.2)

  module _ (h : Span) (hs : List Span) (is : IsCursor r before c (h ∷ hs)) where
    here : (c.0 ≤ c.0) × (c.1 % 16 ≡ 0) × InOrder (c.0 + extent c.1) r.end (h ∷ hs)
    here = order_out c.0 r.end c (h ∷ hs) is.1

    there : (c.0 + extent c.1 ≤ h.0) × (h.1 % 16 ≡ 0) × InOrder (h.0 + extent h.1) r.end hs
    there = order_out (c.0 + extent c.1) r.end h hs here.2

    pub next_facts : (c.0 + extent c.1 ≤ h.0) × (h.1 % 16 ≡ 0) × (h.0 + extent h.1 ≤ r.end) × (bottom r ≤ h.0)
    next_facts = (there.0, there.1, order_bound hs (h.0 + extent h.1) r.end there.2, omega (arith, there.0, order_bound before r.start c.0 is.0))

    pub advanced : IsCursor r (before ++ c ∷ []) h hs
    advanced = (
      order_append before (c ∷ []) r.start c.0 h.0 is.0 (order_in c.0 h.0 c [] here.0 here.1 (le-leb (c.0 + extent c.1) h.0 there.0)),
      order_in h.0 r.end h hs (omega arith) there.1 there.2,
      first_kept before c h ∙ is.2,
    )

    pub unlinked : IsCursor r before c hs
    unlinked = (is.0, order_in c.0 r.end c hs here.0 here.1 (order_lower hs (h.0 + extent h.1) (c.0 + extent c.1) r.end (omega (arith, there.0)) there.2), is.2)

    pub replaced : (n : ℕ) → IsBlockSize n → n < h.1 → IsCursor r before c ((h.0 + n, h.1 - n) ∷ hs)
    replaced n sized less =
        let units : (h.1 - n) % 16 ≡ 0 = omega (arith, sized.1, there.1) in (
          is.0,
          order_in c.0 r.end c ((h.0 + n, h.1 - n) ∷ hs) here.0 here.1 (order_in (c.0 + extent c.1) r.end (h.0 + n, h.1 - n) hs (omega (arith, there.0)) units
              (order_lower hs (h.0 + extent h.1) (h.0 + n + extent (h.1 - n)) r.end (omega (arith, sized.0)) there.2)),
          is.2,
        )

    pub inserted : (s : Span) → IsBlockSize s.1 → c.0 + extent c.1 ≤ s.0 → s.0 + s.1 ≤ h.0 → IsCursor r before c (s ∷ h ∷ hs)
    inserted s sized above below = (
      is.0,
      order_in c.0 r.end c (s ∷ h ∷ hs) here.0 here.1 (order_in (c.0 + extent c.1) r.end s (h ∷ hs) above sized.1
          (order_in (s.0 + extent s.1) r.end h hs (omega (arith, sized.0)) there.1 there.2)),
      is.2,
    )

    not_dummy : (b : List Span) (d : Span) → first_node b c ≡ (r.start, 0) → 16 ≤ c.1 → first_node b d ≡ (r.start, 0)
    not_dummy [] d dummy large = absurd (omega (arith, ap (λ (u : Span). u.1) dummy))
    not_dummy (x ∷ xs) d dummy large = dummy

    pub absorbed : c.0 + c.1 ≡ h.0 → IsCursor r before (c.0, c.1 + h.1) hs
    absorbed touch =
        let large : 16 ≤ c.1 = omega (arith, there.0) in (
          is.0,
          order_in c.0 r.end (c.0, c.1 + h.1) hs here.0 (omega (arith, here.1, there.1)) (order_lower hs (h.0 + extent h.1) (c.0 + extent (c.1 + h.1)) r.end (omega arith) there.2),
          not_dummy before (c.0, c.1 + h.1) is.2 large,
        )
