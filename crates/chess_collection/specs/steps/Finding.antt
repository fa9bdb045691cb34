-- Tags that are looked for, item by item.
--   given   the value that a tag that is looked for has, by what was found of it and the items to come
--   is_refused  an item was refused
--   TakesOn  what becomes of an item: it is looked at, or it begins the movetext, and isn't used
use Rattle.std.specs.Prelude.{◌≡◌, ℕ, Bool, true, false, List, ◌∷◌, ◌++◌, Option, Some, Result, Ok, Err, ⊤}
use Rattle.chess_items.specs.Abandoned.{moves_begin}
use Rattle.chess_items.specs.Items.{Item}
use Rattle.chess_items.specs.declared.fault.PgnFault.{PgnFault}
use Rattle.chess_items.specs.declared.taker.Taken.{Taken}
use Rattle.chess_items.specs.declared.taking.Stop.{Stop}
use Rattle.chess_items.specs.declared.taking.Stop.TheVariants as stop
use Rattle.chess_items.specs.declared.taker.Taken.TheVariants.{GoesOn, Ends, Leaves}
use Rattle.chess_collection.specs.Headings.{tag_among, value_after}
use Rattle.chess_collection.specs.declared.heading.Finder.{Finder}
use Rattle.chess_collection.specs.declared.heading.Heads.{Heads}
use Rattle.chess_collection.specs.declared.heading.Part.{Part}
use Rattle.chess_collection.specs.declared.heading.Part.TheVariants.{Before, Within, After}

-- the value that a tag has where it is looked for by a part of it
abbrev pub given_by : Part → List ℕ → List ℕ → List Item → Option (List ℕ)
given_by Before name value is = tag_among name is
given_by Within name value is = Some (value ++ value_after is)
given_by After name value is = Some value

abbrev pub given : Finder → List Item → Option (List ℕ)
given f is = given_by f.part f.name.now f.value.items is

abbrev pub TakesOn : Heads → Item → Result Taken PgnFault → Heads → Type 0
TakesOn old item (Ok GoesOn) new =
    (moves_begin item ≡ false) × ((is : List Item) → given new.first is ≡ given old.first (item ∷ is)) × ((is : List Item) → given new.second is ≡ given old.second (item ∷ is)) × ((is : List Item) → given new.third is ≡ given old.third (item ∷ is))
TakesOn old item (Ok Leaves) new = (moves_begin item ≡ true) × (new ≡ old)
TakesOn old item (Ok Ends) new = ⊥
TakesOn old item (Err fault) new = ⊤

abbrev pub is_refused : Stop → Bool
is_refused (stop.Refused fault) = true
is_refused _ = false
