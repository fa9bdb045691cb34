-- The free parts of a region as a list, and what allocating and freeing make of it.
use Rattle.std.specs.Prelude.{◌≡◌, ℕ, ◌+◌, ◌-◌, ◌%◌, ◌<◌, ◌≤◌, max, Bool, true, false, ◌&&◌, ◌||◌, List, [], ◌∷◌, ◌++◌, IsTrue, ◌==◌, nat_le, nat_lt, if◌then◌else◌, ⊤}
use Rattle.lent_heap.specs.Region.{Region}

-- a place and a size
abbrev pub Span : Type 0
Span = ℕ × ℕ

-- the sum of the sizes
abbrev pub total : List Span → ℕ
total [] = 0
total (h ∷ hs) = h.1 + total hs

-- whether some hole has n bytes
abbrev pub has_hole : ℕ → List Span → Bool
has_hole n [] = false
has_hole n (h ∷ hs) = nat_le n h.1 || has_hole n hs

-- some hole has n bytes
abbrev pub HasHole : ℕ → List Span → Type 0
HasHole n hs = IsTrue (has_hole n hs)

-- the place of the first such hole
abbrev pub first_fit : ℕ → List Span → ℕ
first_fit n [] = 0
first_fit n (h ∷ hs) = if nat_le n h.1 then h.0 else first_fit n hs

-- h less its first n bytes, before hs
abbrev pub shortened : ℕ → Span → List Span → List Span
shortened n h hs = if h.1 == n then hs else (h.0 + n, h.1 - n) ∷ hs

-- the holes once n bytes are taken from the front of the first that has them
abbrev pub taken_from : ℕ → List Span → List Span
taken_from n [] = []
taken_from n (h ∷ hs) = if nat_le n h.1 then shortened n h hs else h ∷ taken_from n hs

-- s before the holes, joined to the first if they touch
abbrev pub joined_first : Span → List Span → List Span
joined_first s [] = s ∷ []
joined_first s (h ∷ hs) = if s.0 + s.1 == h.0 then (s.0, s.1 + h.1) ∷ hs else s ∷ h ∷ hs

-- the holes once s is free: it is in its place, joined to the holes that it touches
abbrev pub released : Span → List Span → List Span
released s [] = s ∷ []
released s (h ∷ hs) = if nat_lt s.0 h.0 then joined_first s (h ∷ hs) else (if h.0 + h.1 == s.0 then joined_first (h.0, h.1 + s.1) hs else h ∷ released s hs)

-- the bytes that a node of this size takes: the dummy has a size of 0
abbrev pub extent : ℕ → ℕ
extent n = max n 16

-- the nodes lie from low up to high, one after another
abbrev pub in_order : ℕ → ℕ → List Span → Bool
in_order low high [] = nat_le low high
in_order low high (h ∷ hs) = nat_le low h.0 && ((h.1 % 16 == 0) && in_order (h.0 + extent h.1) high hs)

-- the holes lie from low on, none is empty, and no two touch
abbrev pub are_spaced : ℕ → List Span → Bool
are_spaced low [] = true
are_spaced low (h ∷ hs) = nat_le low h.0 && (nat_lt 0 h.1 && are_spaced (h.0 + h.1 + 1) hs)

-- the first of the nodes before c, and c
abbrev pub first_node : List Span → Span → Span
first_node [] c = c
first_node (h ∷ hs) c = h

-- the list is in order round the node c, and begins with the dummy
abbrev pub IsCursor : Region → List Span → Span → List Span → Type 0
IsCursor r before c after = IsTrue (in_order r.start c.0 before) × IsTrue (in_order c.0 r.end (c ∷ after)) × (first_node before c ≡ (r.start, 0))

-- there is no next hole, or it has fewer than n bytes
abbrev pub Skips : ℕ → List Span → Type 0
Skips n [] = ⊤
Skips n (h ∷ hs) = h.1 < n

-- the next hole has n bytes, which are taken
abbrev pub Splits : ℕ → List Span → ℕ → List Span → Type 0
Splits n [] at left = ⊥
Splits n (h ∷ hs) at left = (n ≤ h.1) × (at ≡ h.0) × (left ≡ shortened n h hs)

-- the cursor has moved on by one node
abbrev pub Advances : List Span → Span → List Span → List Span → Span → List Span → Type 0
Advances before c after before' c' after' = (before' ≡ before ++ c ∷ []) × (after ≡ c' ∷ after')

-- s begins before the first hole, if there is one
abbrev pub Precedes : Span → List Span → Type 0
Precedes s [] = ⊤
Precedes s (h ∷ hs) = s.0 < h.0

-- s is between c and the holes after it
abbrev pub Inserts : Span → Span → List Span → List Span → Type 0
Inserts s c after after' = (after' ≡ s ∷ after) × (c.0 + extent c.1 ≤ s.0) × Precedes s after

-- the cursor once c is joined to the next hole, or has been passed
abbrev pub merged : List Span → Span → List Span → List Span × Span × List Span
merged before c [] = (before, c, [])
merged before c (h ∷ hs) = if c.0 + c.1 == h.0 then (before, (c.0, c.1 + h.1), hs) else (before ++ c ∷ [], h, hs)
