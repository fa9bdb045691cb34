-- What holds of every game.
--   AreNoted       each move is between two squares, and each annotation number is one byte
--   nesting        how many variations are open at once in the text of moves
--   IsTagValue, IsOther  the value of a tag; a tag besides those that the games have or that give the start and the end
--   HasTagTexts    what is true of the tags of each game
--   IsGame         what is true of each game
--   WrittenIsRead  a game that is written is read again
--   NewIsGame      a new game is one
--   ReadIsGame     what is read is one
--   OneGame        no text begins with two games, nor with one where it is white
--   OneCollection  no text is two collections
use Rattle.std.specs.Prelude.{◌≡◌, ◌≢◌, ℕ, ◌<◌, ◌≤◌, ◌+◌, max, Bool, true, false, List, [], ◌++◌, length, None, ⊤}
use Rattle.std.specs.List.{AllByRecursion}
use Rattle.chess_types.specs.board.Board.{man_at}
use Rattle.chess_types.specs.board.Position.{IsWellFormed, PositionParts}
use Rattle.chess_items.specs.Collections.{Entry, IsCollection}
use Rattle.chess_items.specs.Items.{Each, in_line, is_blank, is_name_byte}
use Rattle.chess_draws.specs.Pushes.{most_plies}
use Rattle.chess_tree.specs.Comments.{IsComment}
use Rattle.chess_tree.specs.Forest.{Forest, Bare, Node, height, moves_held, most_moves}
use Rattle.chess_tree.specs.WellFormed.{AreSound}
use Rattle.chess_pgn.specs.Games.{Game, Tags, untagged}
use Rattle.chess_pgn.specs.Reading.{BeginsWithGame, IsWhite}
use Rattle.chess_pgn.specs.Tags.{Ascend, is_own}
use Rattle.chess_pgn.specs.Written.{game_text}

abbrev pub AreNoted : Forest → Type 0
AreNoted Bare = ⊤
AreNoted (Node m nags comment below next) = (m.from < 64) × (m.to < 64) × AllByRecursion (λ n. n < 256) nags × AreNoted below × AreNoted next

-- of nodes side by side: as a line with its variations, or as variations
abbrev pub nesting : (as_variations : Bool) → Forest → ℕ
nesting as_variations Bare = 0
nesting false (Node m nags comment below next) = max (nesting false below) (nesting true next)
nesting true (Node m nags comment below next) = max (1 + nesting false below) (nesting true next)

-- a tag's value ends in its line
abbrev pub IsTagValue : List ℕ → Type 0
IsTagValue = Each in_line

-- its name is no other's
abbrev pub IsOther : List ℕ × List ℕ → Type 0
IsOther tag = (tag.0 ≢ []) × Each is_name_byte tag.0 × (is_own tag.0 ≡ false) × IsTagValue tag.1

pub record HasTagTexts (tags : Tags) : Type 0 where
  pub event : IsTagValue tags.event
  pub site : IsTagValue tags.site
  pub date : IsTagValue tags.date
  pub round : IsTagValue tags.round
  pub white : IsTagValue tags.white
  pub black : IsTagValue tags.black
  pub others : AllByRecursion IsOther tags.others
  pub ascend : Ascend tags.others

pub record IsGame (game : Game) : Type 0 where
  pub tags : HasTagTexts game.tags
  pub start : IsWellFormed game.tree.start
  pub on_board : (s : ℕ) → 64 ≤ s → man_at game.tree.start.placement s ≡ None
  pub clock : game.tree.start.clock ≤ 99999
  pub number : game.tree.start.number ≤ 99999
  pub comment : IsComment game.tree.comment
  pub moves : AreSound game.tree.start game.tree.below
  pub noted : AreNoted game.tree.below
  pub deep : height game.tree.below ≤ most_plies
  pub many : moves_held game.tree.below ≤ most_moves

-- Whatever whitespace comes before the text of a game, and whatever follows it, that game is there, up to the two line feeds at the
-- text's end: where that isn't too long for a game, and no more than 128 variations are open at once. So do games whose texts come one after
-- the other.
abbrev pub WrittenIsRead : Type 0
WrittenIsRead =
    (game : Game) → IsGame game → nesting false game.tree.below ≤ 128
    → (before rest : List ℕ) (used : ℕ) → Each is_blank before → used + 2 ≡ length (before ++ game_text game) → used ≤ 1048576
    → BeginsWithGame (before ++ (game_text game ++ rest)) game used

-- A game of which nothing is known yet, not even a move, is one.
abbrev pub NewIsGame : Type 0
NewIsGame =
    (p : PositionParts) → IsWellFormed p → ((s : ℕ) → 64 ≤ s → man_at p.placement s ≡ None) → p.clock ≤ 99999 → p.number ≤ 99999
    → IsGame (untagged (record { start = p; comment = []; below = Bare }))

-- What is read is a game, and no more variations are open at once than may be: so it is read again where it is written, unless its text is too
-- long.
abbrev pub ReadIsGame : Type 0
ReadIsGame = (input : List ℕ) (game : Game) (used : ℕ) → BeginsWithGame input game used → IsGame game × (nesting false game.tree.below ≤ 128)

abbrev pub OneGame : Type 0
OneGame =
    ((input : List ℕ) (g h : Game) (m n : ℕ) → BeginsWithGame input g m → BeginsWithGame input h n → (g ≡ h) × (m ≡ n))
    × ((input : List ℕ) (g : Game) (m : ℕ) → IsWhite input → BeginsWithGame input g m → ⊥)

-- So the entries of a collection, good and bad, are a function of its text.
abbrev pub OneCollection : Type 0
OneCollection = (text : List ℕ) (a b : List (Entry Game)) → IsCollection BeginsWithGame IsWhite text a → IsCollection BeginsWithGame IsWhite text b → a ≡ b
