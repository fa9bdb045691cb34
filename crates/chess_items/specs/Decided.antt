-- When some bytes decide the item that they begin with, whatever follows them.
--   IsDecided  what comes first is the same item with the same bytes, or no item
use Rattle.std.specs.Prelude.{◌≡◌, ◌⊎◌, ℕ, List, ◌++◌}
use Rattle.chess_items.specs.Items.{Item, IsItem}
use Rattle.chess_items.specs.declared.place.Place.{Place}

abbrev pub IsDecided : Place → List ℕ → Type 0
IsDecided place bytes =
    ((item : Item) × (text : List ℕ) × (rest : List ℕ) × (bytes ≡ text ++ rest) × ((more : List ℕ) → IsItem place item text (rest ++ more)))
    ⊎ ((more : List ℕ) (item : Item) (text rest : List ℕ) → bytes ++ more ≡ text ++ rest → IsItem place item text rest → ⊥)
