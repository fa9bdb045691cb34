-- Bytes that come from a source and are at hand.
--   AtHand  a source, its bytes that were read and not used, whether its end was seen, how many more reads there may be, and how many of
--           its bytes were used
--   EachBrings  each read gave a byte, but for the last, where the end was seen
--   Came    reads of at most 65,536 bytes each gave these bytes, and none of them failed; none is made after the end was seen
--   Breaks  the next read failed, or there may be no more: of a new source, 2^40 were made; what was at hand still is, and as many bytes are used
--   LastReadWhere  no read was made, or the last, of at most 65,536 bytes, was made where this holds of the bytes that were at hand and those before it
--   CameWhere    bytes came, by such reads
--   BreaksWhere  bytes came, and then a read broke off before the source's end; of the bytes that were at hand and those that came, this holds
use Rattle.std.specs.Prelude.{◌≡◌, ◌⊎◌, ◌<◌, ◌≤◌, ℕ, ◌+◌, ⊤, Bool, true, false, List, [], ◌∷◌, ◌++◌, length}
use Rattle.std.specs.List.{AllByRecursion}
use Rattle.byte_streams.specs.Calls.{Calls, joined}

pub record AtHand (R : Type 0) : Type 0 where
  pub source : R
  pub bytes : List ℕ
  pub has_ended : Bool
  pub reads : ℕ
  pub used : ℕ

-- the bytes that were read and not used yet
abbrev pub unread : {R : Type 0} → AtHand R → List ℕ
unread h = h.bytes

abbrev pub EachBrings : Bool → List (List ℕ) → Type 0
EachBrings ended [] = ⊤
EachBrings ended (piece ∷ pieces) = ((0 < length piece) ⊎ ((pieces ≡ []) × (ended ≡ true))) × EachBrings ended pieces

-- there may be as many reads fewer, and each byte that came is used or at hand
pub record Came {R : Type 0} (gives : R → List ℕ → R → Type 0) (failed : R → Bool) (old : AtHand R) (bytes : List ℕ) (new : AtHand R) : Type 0 where
  pub pieces : List (List ℕ)
  pub calls : Calls gives old.source pieces new.source
  pub whole : joined pieces ≡ bytes
  pub counted : new.reads + length pieces ≡ old.reads
  pub sized : AllByRecursion (λ piece. length piece ≤ 65536) pieces
  pub placed : new.used + length (unread new) ≡ old.used + length (unread old) + length bytes
  pub well : failed new.source ≡ failed old.source
  pub each : EachBrings new.has_ended pieces
  pub ended_still : old.has_ended ≡ true → (pieces ≡ []) × (new.has_ended ≡ true)

-- of some pieces, one for each read
abbrev pub LastReadWhere : (List ℕ → Type 0) → List ℕ → List (List ℕ) → Type 0
LastReadWhere holds hand pieces = (pieces ≡ []) ⊎ ((before : List (List ℕ)) × (piece : List ℕ) × (pieces ≡ before ++ piece ∷ []) × (length piece ≤ 65536) × holds (hand ++ joined before))

pub record CameWhere {R : Type 0} (holds : List ℕ → Type 0) (gives : R → List ℕ → R → Type 0) (failed : R → Bool) (old new : AtHand R) : Type 0 where
  pub bytes : List ℕ
  pub came : Came gives failed old bytes new
  pub needed : LastReadWhere holds (unread old) came.pieces

abbrev pub Breaks : {R : Type 0} → (R → List ℕ → R → Type 0) → (R → Bool) → AtHand R → AtHand R → Type 0
Breaks gives failed old new =
    ((gives old.source [] new.source × (failed new.source ≡ true)) ⊎ ((new.source ≡ old.source) × (old.reads ≡ 0)))
    × (unread new ≡ unread old) × (new.used ≡ old.used)

pub record BreaksWhere {R : Type 0} (none_in : List ℕ → Type 0) (gives : R → List ℕ → R → Type 0) (failed : R → Bool) (old new : AtHand R) : Type 0 where
  pub bytes : List ℕ
  pub before : AtHand R
  pub came : Came gives failed old bytes before
  pub breaks : Breaks gives failed before new
  pub not_ended : before.has_ended ≡ false
  pub none : none_in (unread old ++ bytes)
