-- What the tags of a text say that no game keeps: how a game is said to have ended and where to have begun, and whose it is where it can't be read.
--   value_after  the value that comes next among items: what its stretches and the bytes after a backslash spell, up to the tag's right bracket
--   tag_among    the value of the first tag of a name among items
--   IsHead       the items at the start of a text before its movetext, as far as they go: what comes next begins the movetext (PGN 8.2), or is no item, or reaches
--                past 1,048,576 bytes
--   IsBlank      a text is whitespace, marks and hidden lines
--   IsThreeOf    the values of three tags of the head; a text that is blank has none
--   IsHeadingOf  what the tags of the head say of the end and the beginning
use Rattle.std.specs.Prelude.{◌≡◌, ◌⊎◌, ◌<◌, ◌≤◌, ◌+◌, ℕ, true, not, if◌then◌else◌, bytes_eq, codes, List, [], ◌∷◌, ◌++◌, length, Option, Some, None}
use Rattle.std.specs.List.{list_all}
use Rattle.chess_items.specs.Abandoned.{moves_begin}
use Rattle.chess_items.specs.Items as items
use Rattle.chess_items.specs.Items.{Item, Spells, is_white}
use Rattle.chess_items.specs.declared.place.Place.TheVariants.{GameStart}

abbrev pub value_after : List Item → List ℕ
value_after [] = []
value_after (items.TagClose ∷ is) = []
value_after (items.Stretch text ∷ is) = text ++ value_after is
value_after (items.Escaped b ∷ is) = b ∷ value_after is
value_after (_ ∷ is) = value_after is

abbrev pub tag_among : List ℕ → List Item → Option (List ℕ)
tag_among name [] = None
tag_among name (items.Name other ∷ is) = if bytes_eq other name then Some (value_after is) else tag_among name is
tag_among name (_ ∷ is) = tag_among name is

pub record IsHead (text : List ℕ) (is : List Item) : Type 0 where
  pub rest : List ℕ
  pub spelled : Spells GameStart text is rest
  pub none : list_all (λ item. not (moves_begin item)) is ≡ true
  pub few : length text ≤ 1048576 + length rest
  pub last : (item : Item) (more : List ℕ) → Spells GameStart text (is ++ item ∷ []) more → (moves_begin item ≡ true) ⊎ (1048576 + length more < length text)

abbrev pub IsBlank : List ℕ → Type 0
IsBlank text = (is : List Item) × (list_all is_white is ≡ true) × Spells GameStart text is []

-- the values of three tags
pub record Three : Type 0 where
  pub first : Option (List ℕ)
  pub second : Option (List ℕ)
  pub third : Option (List ℕ)

-- of those names, among some items
abbrev pub three_among : (first second third : List ℕ) → List Item → Three
three_among first second third is = record { first = tag_among first is; second = tag_among second is; third = tag_among third is }

-- none is there
abbrev pub three_none : Three
three_none = record { first = None; second = None; third = None }

-- in the head of a text; a text of whitespace has none
abbrev pub IsThreeOf : List ℕ → (first second third : List ℕ) → Three → Type 0
IsThreeOf text first second third three = ((is : List Item) × IsHead text is × (three ≡ three_among first second third is)) ⊎ (IsBlank text × (three ≡ three_none))

-- the values of the tags Result (PGN 8.1.1.7), FEN and SetUp (PGN 9.7)
pub record Heading : Type 0 where
  pub result : Option (List ℕ)
  pub fen : Option (List ℕ)
  pub set_up : Option (List ℕ)

-- what the head of a text says
abbrev pub IsHeadingOf : List ℕ → Heading → Type 0
IsHeadingOf text heading = IsThreeOf text (codes "Result") (codes "FEN") (codes "SetUp") (record { first = heading.result; second = heading.fen; third = heading.set_up })
