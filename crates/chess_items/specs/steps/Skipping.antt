-- Whitespace, marks and hidden lines that are read on without being kept.
--   TakesWhite    what becomes of an item: it is white and is used, or it is left
--   BeginsHidden  whether bytes begin as a hidden line does
--   Hides         reads, until a hidden line has ended
--   MaySkip       bytes don't decide the item after some of the first, which are white
--   SkippedWhite  bytes came, and white items are used as far as they go, whatever follows
--   Skips         so it is, and whether nothing follows
use Rattle.std.specs.Prelude.{◌≡◌, ◌≢◌, ◌≤◌, ℕ, ◌+◌, Bool, true, false, List, [], ◌∷◌, ◌++◌, Some, MatchBool, Result, Ok, Err}
use Rattle.std.specs.List.{list_all}
use Rattle.byte_streams.specs.Calls.{Calls, joined}
use Rattle.chess_items.specs.Items.{Each, EndsRun, Item, Spells, in_line, is_white, place_behind, starts_line}
use Rattle.chess_items.specs.steps.ItemAt.{item_at}
use Rattle.chess_items.specs.steps.Deciding.{Decides}
use Rattle.chess_items.specs.steps.Texts.{LastSince, size}
use Rattle.chess_items.specs.declared.at_hand.Fault.{Fault}
use Rattle.chess_items.specs.declared.fault.PgnFault.{PgnFault}
use Rattle.chess_items.specs.declared.place.Place.{Place}
use Rattle.chess_items.specs.declared.taker.Taken.{Taken}
use Rattle.chess_items.specs.declared.taker.Taken.TheVariants.{GoesOn, Ends, Leaves}

abbrev pub TakesWhite : Item → Result Taken PgnFault → Type 0
TakesWhite item (Ok GoesOn) = is_white item ≡ true
TakesWhite item (Ok Leaves) = is_white item ≡ false
TakesWhite item (Ok Ends) = ⊥
TakesWhite item (Err fault) = ⊥

abbrev pub BeginsHidden : Place → List ℕ → Bool → Type 0
BeginsHidden place bytes true = (starts_line place ≡ true) × (rest : List ℕ) × (bytes ≡ 37 ∷ rest)
BeginsHidden place bytes false = starts_line place ≡ true → (rest : List ℕ) → bytes ≡ 37 ∷ rest → ⊥

pub record MaySkip (place : Place) (begun : List ℕ) : Type 0 where
  pub items : List Item
  pub rest : List ℕ
  pub white : list_all is_white items ≡ true
  pub spelled : (more : List ℕ) → Spells place (begun ++ more) items (rest ++ more)
  pub undecided : Decides (place_behind place items) rest → ⊥

module _ {X : Type 0} (comes : X → List ℕ → X → Type 0) (at_hand : X → List ℕ) (all sound : X → Type 0) (reads : X → ℕ) where
  -- a line is used to its end, whose line feed is left
  pub record HidesLine (old new : X) : Type 0 where
    pub pieces : List (List ℕ)
    pub came : Calls comes old pieces new
    pub line : List ℕ
    pub used : at_hand old ++ joined pieces ≡ line ++ at_hand new
    pub each : Each in_line line
    pub stops : EndsRun in_line (at_hand new)
    pub ended : at_hand new ≡ [] → all new
    pub asked : LastSince comes at_hand all reads (Each in_line) old (joined pieces) new
    pub smaller : size at_hand reads new + 1 ≤ size at_hand reads old
    pub still : all old → (joined pieces ≡ []) × all new
    pub sound_still : sound new

  -- so it is, unless a read failed
  abbrev pub Hides : X → X → Result (Unit {0}) Fault → Type 0
  Hides old new (Ok x) = HidesLine old new
  Hides old new (Err fault) = Unit {0}

  pub record SkippedWhite (place : Place) (old new : X) : Type 0 where
    pub pieces : List (List ℕ)
    pub came : Calls comes old pieces new
    pub items : List Item
    pub white : list_all is_white items ≡ true
    pub spelled : (more : List ℕ) → (all new → more ≡ []) → Spells place (at_hand old ++ (joined pieces ++ more)) items (at_hand new ++ more)
    pub last : (more : List ℕ) → (all new → more ≡ []) → (item : Item) (rest : List ℕ) → item_at (place_behind place items) (at_hand new ++ more) ≡ Some (item, rest) → is_white item ≡ false
    pub ended : at_hand new ≡ [] → all new
    pub asked : LastSince comes at_hand all reads (MaySkip place) old (joined pieces) new
    pub still : all old → (joined pieces ≡ []) × all new
    pub sound_still : sound new

  abbrev pub Skips : Place → X → X → Result Bool Fault → Type 0
  Skips place old new (Ok nothing) = SkippedWhite place old new × MatchBool nothing (at_hand new ≡ []) (at_hand new ≢ [])
  Skips place old new (Err e) = Unit {0}
