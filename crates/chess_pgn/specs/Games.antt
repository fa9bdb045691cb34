-- A game: its tags, how it ended, and its moves (PGN 8).
--   tag_in      the value of the tag with a name, among tags
--   Tags        the values of the six tags that each game has, besides Result (PGN 8.1.1), and the others
--   unknown     those of a game of which nothing is known
--   tag_value   the value of a tag, by its name
--   Game        a game
--   untagged    one of which the moves are known and nothing else
use Rattle.std.specs.Prelude.{ℕ, if◌then◌else◌, List, [], ◌∷◌, Option, Some, None, codes, bytes_eq}
use Rattle.chess_items.specs.declared.outcome.Outcome.{Outcome}
use Rattle.chess_items.specs.declared.outcome.Outcome.TheVariants.{Unfinished}
use Rattle.chess_tree.specs.GameTree.{GameTree}

-- tags are pairs of a name and a value
abbrev pub tag_in : List ℕ → List (List ℕ × List ℕ) → Option (List ℕ)
tag_in name [] = None
tag_in name (tag ∷ tags) = if bytes_eq name tag.0 then Some tag.1 else tag_in name tags

-- The others are a map from names to values: the names ascend in ASCII order. They are not Result, FEN and SetUp, which give the outcome and the start.
pub record Tags : Type 0 where
  pub event : List ℕ
  pub site : List ℕ
  pub date : List ℕ
  pub round : List ℕ
  pub white : List ℕ
  pub black : List ℕ
  pub others : List (List ℕ × List ℕ)

abbrev pub unknown : Tags
unknown = record { event = codes "?"; site = codes "?"; date = codes "????.??.??"; round = codes "?"; white = codes "?"; black = codes "?"; others = [] }

unfoldable pub tag_value : List ℕ → Tags → Option (List ℕ)
tag_value name tags =
    if bytes_eq name (codes "Event") then Some tags.event
    else (if bytes_eq name (codes "Site") then Some tags.site else (if bytes_eq name (codes "Date") then Some tags.date else (if bytes_eq name (codes "Round") then Some tags.round else (if bytes_eq name (codes "White") then Some tags.white else (if bytes_eq name (codes "Black") then Some tags.black else tag_in name tags.others)))))

pub record Game : Type 0 where
  pub tags : Tags
  pub outcome : Outcome
  pub tree : GameTree

abbrev pub untagged : GameTree → Game
untagged tree = record { tags = unknown; outcome = Unfinished; tree = tree }
