-- The first item within a line, known by its first byte.
--   IsWithin     some bytes within a line begin with that one, and `left` come after it
--   IsFollowed   some bytes within a line begin with that item, and these come after it
--   IsFirst      so it is, and `left` bytes come after it
use Rattle.std.specs.Prelude.{◌≡◌, ◌<◌, ℕ, List, ◌∷◌, length, Some}
use Rattle.chess_items.specs.Items.{Item}
use Rattle.chess_items.specs.steps.ItemAt.{item_at}
use Rattle.chess_items.specs.declared.place.Place.{Place}
use Rattle.chess_items.specs.declared.place.Place.TheVariants.{InLine}

pub record IsWithin (place : Place) (b left : ℕ) (bytes : List ℕ) : Type 0 where
  pub here : place ≡ InLine
  pub rest : List ℕ
  pub is : bytes ≡ b ∷ rest
  pub some : 0 < length rest
  pub counted : left ≡ length rest

pub record IsFollowed (bytes : List ℕ) (item : Item) (rest : List ℕ) : Type 0 where
  pub found : Some (item, rest) ≡ item_at InLine bytes
  pub some : 0 < length rest

pub record IsFirst (bytes : List ℕ) (item : Item) (left : ℕ) : Type 0 where
  pub rest : List ℕ
  pub followed : IsFollowed bytes item rest
  pub counted : left ≡ length rest
