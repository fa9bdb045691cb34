-- How freed numbers are taken.
--   IsPool       there are such nodes
--   IsLoosened   the nodes are those that were there, and the first freed one has no children
--   IsPut        a node in hand lies under a freed number or a new one
use Rattle.std.specs.Prelude.{◌≡◌, ℕ, ◌<◌, List, []}
use Rattle.chess_tree.specs.steps.Entries.{Entry, entry_at}
use Rattle.chess_tree.specs.steps.Grove.{Grove, Empty, Tree}
use Rattle.chess_tree.specs.steps.Laid.{Laid}

-- with these the first of the freed ones
abbrev pub IsPool : List Entry → ℕ → Type 0
IsPool nodes free = (game freed : Grove) × Laid nodes free game freed Empty

-- the same game
pub record Loosened (new : List Entry) (last : ℕ) (game : Grove) : Type 0 where
  pub later : Grove
  pub laid : Laid new last game later Empty
  pub bare : (entry_at new last).children ≡ []
  pub some : 0 < last

-- a freed branch has been taken apart, whatever the game
abbrev pub IsLoosened : List Entry → ℕ → List Entry → ℕ → Type 0
IsLoosened old free new last = (game freed : Grove) → Laid old free game freed Empty → Loosened new last game

-- a node has been put on a free number
pub record Put (s : Entry) (new : List Entry) (next number : ℕ) (game : Grove) : Type 0 where
  pub later : Grove
  pub laid : Laid new next game later (Tree number s.played Empty Empty)
  pub is : entry_at new number ≡ s

-- the same, whatever the game
abbrev pub IsPut : List Entry → ℕ → Entry → List Entry → ℕ → ℕ → Type 0
IsPut old free s new next number = (game freed : Grove) → Laid old free game freed Empty → Put s new next number game
