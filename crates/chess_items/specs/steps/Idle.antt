-- Whitespace, periods and move numbers, which are passed over together.
--   is_idle, all_idle  such an item, and that each of some items is one
--   IsIdle      outside of tags some bytes begin with such an item, and any others may follow
--   IsIdleRun   some bytes begin with such items, one after another
--   PassesIdle  such items at hand are used, and the taker took them and is as before
use Rattle.std.specs.Prelude.{◌≡◌, ◌≢◌, ℕ, ◌+◌, ◌≤◌, ◌&&◌, Bool, true, false, List, [], ◌++◌, length, Some}
use Rattle.std.specs.List.{list_all}
use Rattle.byte_streams.specs.Calls.{Calls, joined}
use Rattle.chess_items.specs.Items.{Item, Blank, Skipped, is_outside, place_after}
use Rattle.chess_items.specs.steps.ItemAt.{item_at}
use Rattle.chess_items.specs.steps.Taking.{TakesOne, SpellsFrom, Takes, all_white, behind}
use Rattle.chess_items.specs.steps.Texts.{size}
use Rattle.chess_items.specs.declared.place.Place.{Place}
use Rattle.chess_items.specs.declared.place.Place.TheVariants.{InLine}

abbrev pub is_idle : Item → Bool
is_idle (Blank b) = true
is_idle Skipped = true
is_idle _ = false

abbrev pub all_idle : List (ℕ × Item) → Bool
all_idle items = list_all (λ (x : ℕ × Item). is_idle x.1) items

pub record IsIdle (bytes : List ℕ) (next : Place) (rest : List ℕ) : Type 0 where
  pub item : Item
  pub idle : is_idle item ≡ true
  pub found : (more : List ℕ) → item_at InLine (bytes ++ more) ≡ Some (item, rest ++ more)
  pub after : next ≡ place_after InLine item

-- with the number of bytes before each
pub record IsIdleRun (at : ℕ) (place : Place) (bytes : List ℕ) (next : Place) (rest : List ℕ) : Type 0 where
  pub items : List (ℕ × Item)
  pub spelled : (more : List ℕ) → SpellsFrom at place (bytes ++ more) items (rest ++ more)
  pub idle : all_idle items ≡ true
  pub stands : next ≡ behind place items
  pub outside : is_outside next ≡ true
  pub front : List ℕ
  pub parts : bytes ≡ front ++ rest
  pub shorter : items ≢ [] → length rest + 1 ≤ length bytes

module _ {X T : Type 0} (comes : X → List ℕ → X → Type 0) (at_hand : X → List ℕ) (all sound : X → Type 0) (reads : X → ℕ) (takes : TakesOne T) where
  pub record PassesIdle (at most : ℕ) (place : Place) (white : Bool) (old new : X) (t : T) (next : Place) (used : ℕ) : Type 0 where
    pub pieces : List (List ℕ)
    pub came : Calls comes old pieces new
    pub nothing : joined pieces ≡ []
    pub items : List (ℕ × Item)
    pub spelled : (more : List ℕ) → SpellsFrom at place (at_hand old ++ more) items (at_hand new ++ more)
    pub taken : Takes takes t items t
    pub stands : next ≡ behind place items
    pub whites : white && all_white items ≡ white
    pub counted : length (at_hand old) ≡ length (at_hand new) + used
    pub few : used ≤ most
    pub shorter : items ≢ [] → length (at_hand new) + 1 ≤ length (at_hand old)
    pub at_end : all old → all new
    pub no_read : reads new ≡ reads old
    pub sound_still : sound new
    pub no_larger : size at_hand reads new ≤ size at_hand reads old
