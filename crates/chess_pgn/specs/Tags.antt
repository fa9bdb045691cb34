-- The tags of a game as a text gives them (PGN 8.1): pairs of a name and a value, in their order.
--   IsTag     the items of a tag
--   AreTags   the items before the movetext, and the tags among them
--   HasTags   the tags of the game, where those are given
--   fen_in    the FEN of the position in which the game begins; start_in, that position
--   Ascend    names in ASCII order
-- The first tag of a name counts. Result, FEN and SetUp are no tags of the game: its movetext says how it ended, and the others where it begins.
use Rattle.std.specs.Prelude.{◌≡◌, ℕ, ◌||◌, if◌then◌else◌, Bool, true, false, List, [], ◌∷◌, ◌++◌, map, Option, Some, None, Result, Ok, Err, unwrap_or, codes, bytes_eq}
use Rattle.std.specs.Cmp.Lexicographic.{slice_cmp}
use Rattle.std.specs.List.{AllByRecursion}
use Rattle.std.specs.List.Sorted.{IsStrictlySortedBy}
use Rattle.std.specs.Ordering.{nat_cmp}
use Rattle.chess_types.specs.board.Position.{PositionParts, start}
use Rattle.chess_items.specs.Items.{Item, Blank, Hidden, Comment, TagOpen, TagClose, Name, Quote, Stretch, Escaped, is_white}
use Rattle.chess_fen.specs.Reading.{fen_reading}
use Rattle.chess_fen.specs.declared.fault.FenFault.{FenFault}
use Rattle.chess_pgn.specs.Games.{Tags, tag_in}

-- ---- a tag

-- what may come between the parts of a tag
abbrev pub is_tag_gap : Item → Bool
is_tag_gap (Blank b) = true
is_tag_gap Hidden = true
is_tag_gap _ = false

-- nothing but what may be between the parts of a tag
abbrev pub AreGaps : List Item → Type 0
AreGaps = AllByRecursion (λ item. is_tag_gap item ≡ true)

-- a value is made of stretches, and of bytes after a backslash
abbrev pub is_value_part : Item → Bool
is_value_part (Stretch text) = true
is_value_part (Escaped b) = true
is_value_part _ = false

-- nothing but parts of a value
abbrev pub AreValueParts : List Item → Type 0
AreValueParts = AllByRecursion (λ item. is_value_part item ≡ true)

-- what a part of a value stands for
abbrev pub part_text : Item → List ℕ
part_text (Stretch text) = text
part_text (Escaped b) = b ∷ []
part_text _ = []

-- a tag's value
abbrev pub value_text : List Item → List ℕ
value_text [] = []
value_text (item ∷ items) = part_text item ++ value_text items

-- a bracket, the name, the value between quotation marks, and a bracket
pub record IsTag (items : List Item) (name value : List ℕ) : Type 0 where
  pub before_name : List Item
  pub behind_name : List Item
  pub parts : List Item
  pub behind_value : List Item
  pub spelled : items ≡ TagOpen ∷ (before_name ++ Name name ∷ (behind_name ++ Quote ∷ (parts ++ Quote ∷ (behind_value ++ TagClose ∷ []))))
  pub gaps : AreGaps before_name × AreGaps behind_name × AreGaps behind_value
  pub of_value : AreValueParts parts
  pub value_is : value ≡ value_text parts

-- ---- tags

-- what may come between tags: whitespace and comments
abbrev pub may_part_tags : Item → Bool
may_part_tags (Comment text) = true
may_part_tags item = is_white item

-- nothing but what may be between tags
abbrev pub AreBetween : List Item → Type 0
AreBetween = AllByRecursion (λ item. may_part_tags item ≡ true)

-- these tags, one after another, and nothing else but what may come between them
abbrev pub AreTags : List Item → List (List ℕ × List ℕ) → Type 0
AreTags items [] = AreBetween items
AreTags items (tag ∷ tags) =
    (prefix own rest : List Item) × (items ≡ prefix ++ (own ++ rest)) × AreBetween prefix × IsTag own tag.0 tag.1 × AreTags rest tags

-- ---- what they say

-- the names ascend in ASCII order, so that none comes twice
abbrev pub Ascend : List (List ℕ × List ℕ) → Type 0
Ascend tags = IsStrictlySortedBy (slice_cmp nat_cmp) (map (λ tag. tag.0) tags)

-- the value of a tag that each game has: the first given, or that text where there is none
abbrev pub value_in : List (List ℕ × List ℕ) → List ℕ → List ℕ → List ℕ
value_in given name text = unwrap_or (tag_in name given) text

-- the tags that say how the game ended and where it begins, and the others that each game has
abbrev pub is_own : List ℕ → Bool
is_own name =
    bytes_eq name (codes "Result") || bytes_eq name (codes "FEN") || bytes_eq name (codes "SetUp")
    || bytes_eq name (codes "Event") || bytes_eq name (codes "Site") || bytes_eq name (codes "Date") || bytes_eq name (codes "Round") || bytes_eq name (codes "White") || bytes_eq name (codes "Black")

pub record HasTags (given : List (List ℕ × List ℕ)) (tags : Tags) : Type 0 where
  pub event : tags.event ≡ value_in given (codes "Event") (codes "?")
  pub site : tags.site ≡ value_in given (codes "Site") (codes "?")
  pub date : tags.date ≡ value_in given (codes "Date") (codes "????.??.??")
  pub round : tags.round ≡ value_in given (codes "Round") (codes "?")
  pub white : tags.white ≡ value_in given (codes "White") (codes "?")
  pub black : tags.black ≡ value_in given (codes "Black") (codes "?")
  pub others : (name : List ℕ) → tag_in name tags.others ≡ (if is_own name then None else tag_in name given)
  pub ascend : Ascend tags.others

-- ---- the start

-- a SetUp of 0 says that the game begins in the usual position (PGN 9.7.1)
abbrev pub is_usual : Option (List ℕ) → Bool
is_usual None = false
is_usual (Some value) = bytes_eq value (codes "0")

-- the FEN of the position in which the game begins (PGN 9.7.2), if the tags give one
abbrev pub fen_in : List (List ℕ × List ℕ) → Option (List ℕ)
fen_in given = if is_usual (tag_in (codes "SetUp") given) then None else tag_in (codes "FEN") given

-- the position, where a FEN is one
abbrev pub position_in : Result PositionParts FenFault → Option PositionParts
position_in (Ok p) = Some p
position_in (Err fault) = None

-- the position that a FEN spells, or else the usual one; none where it spells none
abbrev pub start_by : Option (List ℕ) → Option PositionParts
start_by None = Some start
start_by (Some fen) = position_in (fen_reading fen)

-- the position in which a game begins, by its tags
abbrev pub start_in : List (List ℕ × List ℕ) → Option PositionParts
start_in given = start_by (fen_in given)
