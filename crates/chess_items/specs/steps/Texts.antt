-- A text that comes bit by bit.
--   Near        where bytes came, the last read was made where the bytes before it did not decide the item
--   size        falls with each byte used, and doesn't grow with the bytes that come
--   LastCame    bytes came, the last of them by one read
--   LastWhere   no read was made, or the last was made where this holds of the bytes before it
--   LastSince   the same, and the last was made before all had come
--   Needs       no read was made, or the last was made where at most `most` bytes were at hand, which did not decide the item
--   MadeReady   bytes came until the first item is decided or all have come
--   Keeps       the first bytes are used
--   Refills     all bytes at hand are used, and more come by one read
--   BreaksOff   why no more bytes come, though not all have: bytes came, and then there was no memory, or a read broke off
--   RefillBreaks  the same of one read
--   BreaksWhile the same of reads each of which was made where this holds of the bytes before it
--   RanShort    bytes came, each read needed, and then there was no memory
--   Broke       bytes came, and then a read broke off; those before it don't decide the item that they begin with
--   BreaksAt    either
--   Oversized   no item within `most` bytes, and that there is none isn't decided by one byte more
use Rattle.std.specs.Prelude.{◌≡◌, ℕ, ◌+◌, ◌*◌, ◌≤◌, ◌<◌, ◌⊎◌, Bool, true, false, List, [], ◌++◌, length, take, MatchOption, Result, Ok, Err}
use Rattle.byte_streams.specs.Calls.{Calls, joined}
use Rattle.chess_items.specs.steps.Deciding.{Decides}
use Rattle.chess_items.specs.steps.ItemAt.{item_at}
use Rattle.chess_items.specs.declared.at_hand.Fault.{Fault}
use Rattle.chess_items.specs.declared.at_hand.Fault.TheVariants.{Memory, Read}
use Rattle.chess_items.specs.declared.place.Place.{Place}

abbrev pub Near : Place → List ℕ → List ℕ → Type 0
Near place old new = (new ≡ old) ⊎ ((prefix : List ℕ) × (piece : List ℕ) × (new ≡ prefix ++ piece) × (length piece ≤ 65536) × (Decides place prefix → ⊥))

abbrev pub size : {X : Type 0} → (X → List ℕ) → (X → ℕ) → X → ℕ
size at_hand reads s = reads s * 65537 + length (at_hand s)

-- those before the last read, and the state then
pub record LastCame {X : Type 0} (comes : X → List ℕ → X → Type 0) (reads : X → ℕ) (old : X) (came : List ℕ) (new : X) : Type 0 where
  pub earlier : List (List ℕ)
  pub before : X
  pub first : Calls comes old earlier before
  pub last : List (List ℕ)
  pub brought : Calls comes before last new
  pub once : reads new + 1 ≡ reads before
  pub parts : came ≡ joined earlier ++ joined last

abbrev pub LastWhere : {X : Type 0} → (X → List ℕ → X → Type 0) → (X → List ℕ) → (X → ℕ) → (List ℕ → Type 0) → X → List ℕ → X → Type 0
LastWhere comes at_hand reads holds old came new = (reads new ≡ reads old) ⊎ ((l : LastCame comes reads old came new) × holds (at_hand old ++ joined l.earlier))

abbrev pub LastSince : {X : Type 0} → (X → List ℕ → X → Type 0) → (X → List ℕ) → (X → Type 0) → (X → ℕ) → (List ℕ → Type 0) → X → List ℕ → X → Type 0
LastSince comes at_hand all reads holds old came new = (reads new ≡ reads old) ⊎ ((all old → ⊥) × (l : LastCame comes reads old came new) × holds (at_hand old ++ joined l.earlier))

-- the last read was made with few bytes at hand, which did not decide, and before the end was seen
pub record LastNeeded {X : Type 0} (comes : X → List ℕ → X → Type 0) (at_hand : X → List ℕ) (all : X → Type 0) (reads : X → ℕ) (most : ℕ) (place : Place) (old : X) (more : List ℕ) (new : X) : Type 0 where
  pub came : LastCame comes reads old more new
  pub few : length (at_hand old ++ joined came.earlier) ≤ most
  pub undecided : Decides place (at_hand old ++ joined came.earlier) → ⊥
  pub not_yet : all old → ⊥

-- with the bytes that came
abbrev pub Needs : {X : Type 0} → (X → List ℕ → X → Type 0) → (X → List ℕ) → (X → Type 0) → (X → ℕ) → ℕ → Place → X → List ℕ → X → Type 0
Needs comes at_hand all reads most place old more new = (reads new ≡ reads old) ⊎ LastNeeded comes at_hand all reads most place old more new

-- more than `most` bytes, of which no item of at most `most` is the first, and the first `most + 1` don't decide that there is none
abbrev pub Oversized : ℕ → Place → List ℕ → Type 0
Oversized most place input = (most < length input) × MatchOption (item_at place input) (Decides place (take (most + 1) input) → ⊥) (λ x. most + length x.1 < length input)

abbrev pub BreaksOff : {X : Type 0} → (X → List ℕ → X → Type 0) → (X → X → Type 0) → (X → Type 0) → X → X → Fault → Type 0
BreaksOff comes breaks all old new Memory = (all old → ⊥) × (pieces : List (List ℕ)) × Calls comes old pieces new
BreaksOff {X} comes breaks all old new Read = (all old → ⊥) × (pieces : List (List ℕ)) × (mid : X) × Calls comes old pieces mid × breaks mid new × (all mid → ⊥)

abbrev pub RefillBreaks : {X : Type 0} → (X → List ℕ → X → Type 0) → (X → X → Type 0) → (X → Type 0) → (X → ℕ) → X → X → Fault → Type 0
RefillBreaks comes breaks all reads old new Memory = (all old → ⊥) × (pieces : List (List ℕ)) × Calls comes old pieces new × ((reads new ≡ reads old) ⊎ (reads new + 1 ≡ reads old))
RefillBreaks {X} comes breaks all reads old new Read = (all old → ⊥) × (mid : X) × comes old [] mid × breaks mid new × (all mid → ⊥)

-- there was no memory to read into, or for what was read
pub record ShortWhile {X : Type 0} (comes : X → List ℕ → X → Type 0) (at_hand : X → List ℕ) (all : X → Type 0) (reads : X → ℕ) (holds : List ℕ → Type 0) (old new : X) : Type 0 where
  pub pieces : List (List ℕ)
  pub came : Calls comes old pieces new
  pub not_yet : all old → ⊥
  pub asked : LastSince comes at_hand all reads holds old (joined pieces) new

-- a read broke off, which was made for the same reason
pub record BrokeWhile {X : Type 0} (comes : X → List ℕ → X → Type 0) (at_hand : X → List ℕ) (breaks : X → X → Type 0) (all : X → Type 0) (holds : List ℕ → Type 0) (old new : X) : Type 0 where
  pub pieces : List (List ℕ)
  pub mid : X
  pub came : Calls comes old pieces mid
  pub not_yet : all old → ⊥
  pub not_all : all mid → ⊥
  pub breaks_off : breaks mid new
  pub asked : holds (at_hand old ++ joined pieces)

-- either
abbrev pub BreaksWhile : {X : Type 0} → (X → List ℕ → X → Type 0) → (X → List ℕ) → (X → X → Type 0) → (X → Type 0) → (X → ℕ) → (List ℕ → Type 0) → X → X → Fault → Type 0
BreaksWhile comes at_hand breaks all reads holds old new Memory = ShortWhile comes at_hand all reads holds old new
BreaksWhile comes at_hand breaks all reads holds old new Read = BrokeWhile comes at_hand breaks all holds old new

pub record Broke {X : Type 0} (comes : X → List ℕ → X → Type 0) (at_hand : X → List ℕ) (breaks : X → X → Type 0) (all sound : X → Type 0) (reads : X → ℕ) (most : ℕ) (place : Place) (old new : X) : Type 0 where
  pub pieces : List (List ℕ)
  pub mid : X
  pub came : Calls comes old pieces mid
  pub longer : at_hand mid ≡ at_hand old ++ joined pieces
  pub undecided : Decides place (at_hand mid) → ⊥
  pub few : length (at_hand mid) ≤ most
  pub not_yet : all old → ⊥
  pub not_all : all mid → ⊥
  pub sound_still : sound mid
  pub breaks_off : breaks mid new

pub record RanShort {X : Type 0} (comes : X → List ℕ → X → Type 0) (at_hand : X → List ℕ) (all : X → Type 0) (reads : X → ℕ) (most : ℕ) (place : Place) (old new : X) : Type 0 where
  pub pieces : List (List ℕ)
  pub came : Calls comes old pieces new
  pub asked : Needs comes at_hand all reads most place old (joined pieces) new
  pub not_yet : all old → ⊥

abbrev pub BreaksAt : {X : Type 0} → (X → List ℕ → X → Type 0) → (X → List ℕ) → (X → X → Type 0) → (X → Type 0) → (X → Type 0) → (X → ℕ) → ℕ → Place → X → X → Fault → Type 0
BreaksAt comes at_hand breaks all sound reads most place old new Memory = RanShort comes at_hand all reads most place old new
BreaksAt comes at_hand breaks all sound reads most place old new Read = Broke comes at_hand breaks all sound reads most place old new

module _ {X : Type 0} (comes : X → List ℕ → X → Type 0) (at_hand : X → List ℕ) (all sound : X → Type 0) (reads : X → ℕ) where
  -- the bytes at hand decide the next item, or no more come
  pub record IsReady (most : ℕ) (place : Place) (old : X) (more : List ℕ) (new : X) : Type 0 where
    pub longer : at_hand new ≡ at_hand old ++ more
    pub decided : Decides place (at_hand new) ⊎ all new
    pub near : Near place (at_hand old) (at_hand new)
    pub asked : Needs comes at_hand all reads most place old more new
    pub at_end : all old → (more ≡ []) × all new
    pub sound_still : sound new
    pub no_larger : size at_hand reads new ≤ size at_hand reads old
    pub held : length (at_hand old) ≤ most + 65536 → length (at_hand new) ≤ most + 65536

  -- too many bytes are at hand, and they don't decide the item
  pub record IsOver (most : ℕ) (place : Place) (old : X) (more : List ℕ) (new : X) : Type 0 where
    pub longer : at_hand new ≡ at_hand old ++ more
    pub over : most < length (at_hand new)
    pub undecided : Decides place (at_hand new) → ⊥
    pub asked : Needs comes at_hand all reads most place old more new
    pub at_end : all old → (more ≡ []) × all new
    pub sound_still : sound new
    pub no_larger : size at_hand reads new ≤ size at_hand reads old
    pub held : length (at_hand old) ≤ most + 65536 → length (at_hand new) ≤ most + 65536

  -- they do, or too many are at hand
  abbrev pub AfterCame : ℕ → Place → X → List ℕ → X → Bool → Type 0
  AfterCame most place old more new true = IsReady most place old more new
  AfterCame most place old more new false = IsOver most place old more new

  -- bytes came until one of the two is so
  pub record Made (most : ℕ) (place : Place) (old new : X) (is_ready : Bool) : Type 0 where
    pub more : List ℕ
    pub came : comes old more new
    pub after : AfterCame most place old more new is_ready

  abbrev pub MadeReady : ℕ → Place → X → X → Result Bool Fault → Type 0
  MadeReady most place old new (Ok is_ready) = Made most place old new is_ready
  MadeReady most place old new (Err e) = Unit {0}

  pub record Keeps (left : ℕ) (old new : X) : Type 0 where
    pub kept : (text rest : List ℕ) → at_hand old ≡ text ++ rest → length rest ≡ left → at_hand new ≡ rest
    pub came : comes old [] new
    pub at_end : all old → all new
    pub not_yet : all new → all old
    pub no_read : reads new ≡ reads old
    pub sound_still : sound new
    pub smaller : size at_hand reads new + length (at_hand old) ≤ size at_hand reads old + left

  -- others are at hand, or none come
  abbrev pub AfterRefill : X → List ℕ → X → Bool → Type 0
  AfterRefill old more new true = (at_hand new ≡ more) × sound new × (size at_hand reads new + 1 ≤ size at_hand reads old) × (all old → ⊥) × (reads new + 1 ≡ reads old)
  AfterRefill old more new false = (at_hand new ≡ []) × (more ≡ []) × all new × sound new × (size at_hand reads new ≤ size at_hand reads old) × ((reads new ≡ reads old) ⊎ ((reads new + 1 ≡ reads old) × (all old → ⊥)))

  -- all bytes at hand are used, and others came by one read, or none do
  pub record Refill (old new : X) (has_more : Bool) : Type 0 where
    pub more : List ℕ
    pub came : comes old more new
    pub after : AfterRefill old more new has_more

  abbrev pub Refills : X → X → Result Bool Fault → Type 0
  Refills old new (Ok has_more) = Refill old new has_more
  Refills old new (Err e) = Unit {0}
