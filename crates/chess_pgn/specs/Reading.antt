-- What the start of a text gives as a game (PGN 8).
--   is_heading       may come before the movetext: a part of a tag, a comment, or whitespace
--   is_tagged        comes in a tag alone, after its bracket
--   is_movetext      may come in movetext, and doesn't end it
--   remarks          the comments among some items, after others
--   Starts           movetext begins with an item that no head has
--   HasBegun         movetext has such an item
--   Ends             how a game ends: with its marker, or without one before a tag or at the end of the text
--   Gives            some items are a head, a movetext and an end: the head's tags are the game's and give its start, and the movetext derives its comments and moves
--   IsWithinLimits   a game isn't too large to be read
--   BeginsWithGame   the items of a text's first bytes give a game
--   HasMoves         movetext after a head has begun, and derives moves
--   MayBegin         some items go on to a head, whatever start its tags give, or to a head and such movetext
--   HasNoGame        no game is at the start of a text
--   HasNoGameYet     no one game is at the start of every text that begins so
--   IsWhite          a text has whitespace, marks and hidden lines alone
--   IsAnswered       a reader returns that game, unless there is no memory
use Rattle.std.specs.Prelude.{◌≡◌, ◌⊎◌, ℕ, ◌+◌, ◌≤◌, Bool, true, false, not, List, [], ◌∷◌, ◌++◌, length, Option, Some, None, Result, Ok, Err, ⊤}
use Rattle.std.specs.List.{list_all}
use Rattle.std.specs.Str.{byte}
use Rattle.chess_items.specs.Items as items
use Rattle.chess_items.specs.Items.{Item, Spells, is_white}
use Rattle.chess_items.specs.declared.fault.FaultKind.TheVariants.{Memory}
use Rattle.chess_items.specs.declared.fault.PgnFault.{PgnFault}
use Rattle.chess_items.specs.declared.outcome.Outcome.{Outcome}
use Rattle.chess_items.specs.declared.outcome.Outcome.TheVariants.{Unfinished}
use Rattle.chess_items.specs.declared.place.Place.TheVariants.{GameStart}
use Rattle.chess_types.specs.board.Position.{PositionParts}
use Rattle.chess_draws.specs.Pushes.{most_plies}
use Rattle.chess_tree.specs.Comments.{normalised}
use Rattle.chess_tree.specs.Forest.{Forest, height}
use Rattle.chess_pgn.specs.Games.{Game}
use Rattle.chess_pgn.specs.Grammar.{Derives, elements, few_are_open, comments_joined}
use Rattle.chess_pgn.specs.Tags.{AreTags, HasTags, start_in}
use Rattle.chess_pgn.specs.steps.GameCode.{game_of}
use Rattle.chess_pgn.specs.declared.game.Game as code

abbrev pub is_heading : Item → Bool
is_heading items.Skipped = false
is_heading (items.Word word) = false
is_heading (items.Nag n) = false
is_heading items.Open = false
is_heading items.Close = false
is_heading (items.Marker outcome) = false
is_heading _ = true

abbrev pub is_tagged : Item → Bool
is_tagged items.TagClose = true
is_tagged (items.Name name) = true
is_tagged items.Quote = true
is_tagged (items.Stretch text) = true
is_tagged (items.Escaped b) = true
is_tagged _ = false

abbrev pub is_movetext : Item → Bool
is_movetext (items.Marker outcome) = false
is_movetext items.TagOpen = false
is_movetext item = not (is_tagged item)

-- the comments before the movetext, after one item more
abbrev pub lead_after : List ℕ → Item → List ℕ
lead_after lead (items.Comment text) = comments_joined lead (normalised text)
lead_after lead _ = lead

abbrev pub remarks : List ℕ → List Item → List ℕ
remarks lead [] = lead
remarks lead (item ∷ is) = remarks (lead_after lead item) is

abbrev pub Starts : List Item → Type 0
Starts [] = ⊤
Starts (item ∷ is) = is_heading item ≡ false

abbrev pub HasBegun : List Item → Type 0
HasBegun [] = ⊥
HasBegun (item ∷ is) = is_heading item ≡ false

-- nothing is used of the bracket of a tag
abbrev pub Ends : List Item → List Item → Outcome → List ℕ → Type 0
Ends movetext ending outcome rest =
    (ending ≡ items.Marker outcome ∷ [])
    ⊎ ((ending ≡ []) × (outcome ≡ Unfinished) × ((rest ≡ []) ⊎ (HasBegun movetext × (more : List ℕ) × (rest ≡ byte "[" ∷ more))))

pub record Gives (is : List Item) (rest : List ℕ) (game : Game) : Type 0 where
  pub head : List Item
  pub movetext : List Item
  pub ending : List Item
  pub given : List (List ℕ × List ℕ)
  pub parts : is ≡ head ++ (movetext ++ ending)
  pub are_tags : AreTags head given
  pub has_tags : HasTags given game.tags
  pub start : start_in given ≡ Some game.tree.start
  pub starts : Starts movetext
  pub moving : list_all is_movetext movetext ≡ true
  pub ends : Ends movetext ending game.outcome rest
  pub few : few_are_open 0 (elements movetext) ≡ true
  pub derives : Derives (elements movetext) game.tree.start (remarks [] head) game.tree.comment game.tree.below

-- at most 20,000 plies in a line; the bytes of a game never have more moves than a tree holds
pub record IsWithinLimits (game : Game) : Type 0 where
  pub deep : height game.tree.below ≤ most_plies

-- the first `used` bytes, at most 1,048,576, and not white alone; what follows them cuts no item short
pub record BeginsWithGame (input : List ℕ) (game : Game) (used : ℕ) : Type 0 where
  pub items : List Item
  pub rest : List ℕ
  pub spelled : Spells GameStart input items rest
  pub counted : used + length rest ≡ length input
  pub few : used ≤ 1048576
  pub some : list_all is_white items ≡ false
  pub gives : Gives items rest game
  pub within : IsWithinLimits game

-- from the start that the head's tags give
pub record HasMoves (head : List Item) (given : List (List ℕ × List ℕ)) (movetext : List Item) : Type 0 where
  pub start : PositionParts
  pub told : start_in given ≡ Some start
  pub starts : Starts movetext
  pub moving : list_all is_movetext movetext ≡ true
  pub few : few_are_open 0 (elements movetext) ≡ true
  pub comment : List ℕ
  pub moves : Forest
  pub derives : Derives (elements movetext) start (remarks [] head) comment moves

-- with these items more
pub record MayBegin (begun : List Item) : Type 0 where
  pub more : List Item
  pub head : List Item
  pub movetext : List Item
  pub given : List (List ℕ × List ℕ)
  pub parts : begun ++ more ≡ head ++ movetext
  pub are_tags : AreTags head given
  pub moves : (movetext ≡ []) ⊎ HasMoves head given movetext

abbrev pub HasNoGame : List ℕ → Type 0
HasNoGame input = (game : Game) (used : ℕ) → BeginsWithGame input game used → ⊥

abbrev pub HasNoGameYet : List ℕ → Type 0
HasNoGameYet begun = (game : Game) (used : ℕ) → ((more : List ℕ) → BeginsWithGame (begun ++ more) game used) → ⊥

pub record IsWhite (input : List ℕ) : Type 0 where
  pub items : List Item
  pub white : list_all is_white items ≡ true
  pub spelled : Spells GameStart input items []

-- with the number of bytes that it takes
abbrev pub IsAnswered : {A : Type 0} → Game → ℕ → Result (Option (code.Game A × ℕ)) PgnFault → Type 0
IsAnswered game used (Ok (Some x)) = (game_of x.0 ≡ game) × (x.1 ≡ used)
IsAnswered game used (Ok None) = ⊥
IsAnswered game used (Err fault) = fault.kind ≡ Memory
