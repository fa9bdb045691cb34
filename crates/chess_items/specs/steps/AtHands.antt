-- Reads that put bytes at hand.
--   Reads     one read
--   Tries     one read, or there was no memory to read into
--   Needed    each read is made where the bytes at hand don't decide the item that they begin with
--   Brought   what those reads brought
--   Readied   reads, until the item is decided or the source has ended
--   Refilled  all bytes at hand are used, and one read brings more
use Rattle.std.specs.Prelude.{◌≡◌, ℕ, ◌+◌, ◌≤◌, ◌<◌, ◌⊎◌, Bool, true, false, List, [], ◌∷◌, ◌++◌, length, Result, Ok, Err}
use Rattle.std.specs.List.{AllByRecursion}
use Rattle.byte_streams.specs.Calls.{Calls, joined}
use Rattle.chess_items.specs.Coming.{AtHand, Came, EachBrings, unread}
use Rattle.chess_items.specs.steps.Deciding.{Decides}
use Rattle.chess_items.specs.steps.Texts.{Needs}
use Rattle.chess_items.specs.declared.place.Place.{Place}
use Rattle.chess_items.specs.declared.at_hand.Fault.{Fault}
use Rattle.chess_items.specs.declared.at_hand.Fault.TheVariants.{Memory, Read}

-- what follows a read: its bytes are at hand, it failed, or there was no memory for them
abbrev pub After : {R : Type 0} → (R → Type 0) → (R → Bool) → AtHand R → List ℕ → AtHand R → Result (Unit {0}) Fault → Type 0
After ended failed old piece new (Ok x) =
    (unread new ≡ unread old ++ piece) × (new.has_ended ≡ true → ended new.source) × (new.has_ended ≡ true → piece ≡ []) × (failed new.source ≡ failed old.source) × (new.has_ended ≡ false → 0 < length piece)
After ended failed old piece new (Err Read) = (failed new.source ≡ true) × (piece ≡ []) × (unread new ≡ unread old)
After ended failed old piece new (Err Memory) = (failed new.source ≡ failed old.source) × (0 < length piece)

pub record Reads {R : Type 0} (gives : R → List ℕ → R → Type 0) (ended : R → Type 0) (failed : R → Bool) (old new : AtHand R) (result : Result (Unit {0}) Fault) : Type 0 where
  pub piece : List ℕ
  pub call : gives old.source piece new.source
  pub small : length piece ≤ 65536
  pub counted : new.reads + 1 ≡ old.reads
  pub placed : new.used + length (unread new) ≡ old.used + length (unread old) + length piece
  pub after : After ended failed old piece new result

abbrev pub Tries : {R : Type 0} → (R → List ℕ → R → Type 0) → (R → Type 0) → (R → Bool) → AtHand R → AtHand R → Result (Unit {0}) Fault → Type 0
Tries gives ended failed old new result = ((result ≡ Err Memory) × (new ≡ old)) ⊎ Reads gives ended failed old new result

abbrev pub Needed : ℕ → Place → List ℕ → List (List ℕ) → Type 0
Needed most place prefix [] = Unit {0}
Needed most place prefix (piece ∷ pieces) = (Decides place prefix → ⊥) × (length prefix ≤ most) × (length piece ≤ 65536) × Needed most place (prefix ++ piece) pieces

-- each read was needed, and its bytes are at hand
pub record Brought {R : Type 0} (gives : R → List ℕ → R → Type 0) (ended : R → Type 0) (failed : R → Bool) (most : ℕ) (place : Place) (old new : AtHand R) : Type 0 where
  pub pieces : List (List ℕ)
  pub calls : Calls gives old.source pieces new.source
  pub needed : Needed most place (unread old) pieces
  pub counted : new.reads + length pieces ≡ old.reads
  pub well : failed new.source ≡ failed old.source
  pub placed : new.used + length (unread new) ≡ old.used + length (unread old) + length (joined pieces)
  pub at_end : old.has_ended ≡ true → (pieces ≡ []) × (new.has_ended ≡ true)
  pub asked : Needs (λ s bytes t. Came gives failed s bytes t) unread (λ s. s.has_ended ≡ true) (λ s. s.reads) most place old (joined pieces) new
  pub each : EachBrings new.has_ended pieces
  pub whole : unread new ≡ unread old ++ joined pieces
  pub ended_so : new.has_ended ≡ true → ended new.source

-- what follows the reads: the item is decided or the source has ended, or too many bytes don't decide it
abbrev pub AfterAll : {R : Type 0} → ℕ → Place → AtHand R → Bool → Type 0
AfterAll most place new true = Decides place (unread new) ⊎ (new.has_ended ≡ true)
AfterAll most place new false = (most < length (unread new)) × (Decides place (unread new) → ⊥)

-- bytes were read until those at hand decide the next item, or all were read, or there are too many
pub record HasRead {R : Type 0} (gives : R → List ℕ → R → Type 0) (ended : R → Type 0) (failed : R → Bool) (most : ℕ) (place : Place) (old new : AtHand R) (is_ready : Bool) : Type 0 where
  pub brought : Brought gives ended failed most place old new
  pub after : AfterAll most place new is_ready

abbrev pub Readied : {R : Type 0} → (R → List ℕ → R → Type 0) → (R → Type 0) → (R → Bool) → ℕ → Place → AtHand R → AtHand R → Result Bool Fault → Type 0
Readied gives ended failed most place old new (Ok is_ready) = HasRead gives ended failed most place old new is_ready
Readied gives ended failed most place old new (Err e) = Unit {0}

-- what follows: these bytes alone are at hand, or the source has ended
abbrev pub AfterReading : {R : Type 0} → (R → Type 0) → List (List ℕ) → AtHand R → Bool → Type 0
AfterReading ended pieces new true = (unread new ≡ joined pieces) × (length pieces ≡ 1) × (new.has_ended ≡ false)
AfterReading ended pieces new false = (unread new ≡ []) × (joined pieces ≡ []) × (length pieces ≤ 1) × (new.has_ended ≡ true) × ended new.source

-- all bytes at hand are used, and others were read, or none are left
pub record HasRefilled {R : Type 0} (gives : R → List ℕ → R → Type 0) (ended : R → Type 0) (failed : R → Bool) (old new : AtHand R) (has_more : Bool) : Type 0 where
  pub pieces : List (List ℕ)
  pub calls : Calls gives old.source pieces new.source
  pub counted : new.reads + length pieces ≡ old.reads
  pub sized : AllByRecursion (λ piece. length piece ≤ 65536) pieces
  pub placed : new.used + length (unread new) ≡ old.used + length (unread old) + length (joined pieces)
  pub well : failed new.source ≡ failed old.source
  pub at_end : old.has_ended ≡ true → (pieces ≡ []) × (new.has_ended ≡ true)
  pub each : EachBrings new.has_ended pieces
  pub after : AfterReading ended pieces new has_more

abbrev pub Refilled : {R : Type 0} → (R → List ℕ → R → Type 0) → (R → Type 0) → (R → Bool) → AtHand R → AtHand R → Result Bool Fault → Type 0
Refilled gives ended failed old new (Ok has_more) = HasRefilled gives ended failed old new has_more
Refilled gives ended failed old new (Err e) = Unit {0}
