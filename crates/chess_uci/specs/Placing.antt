-- The line that the words after `position` name.
--   start_line   a game as it begins
--   begun_by     where the line begins: `startpos`, or `fen` and the words of a FEN
--   long_move    the legal move that a word names in long algebraic notation
--   line_played  the line with the moves that the words name, at most 20,000
--   placed       the line, where there is one
--   Grows        memory is asked for on the way there: for a FEN, or for a move that is legal and within the limit
use Rattle.std.specs.Prelude.{◌≡◌, ◌⊎◌, ℕ, Bool, true, false, is_some, nat_le, if◌then◌else◌, List, [], ◌∷◌, ◌++◌, length, fold, find, Option, Some, None, codes, Result, Ok, Err}
use Rattle.std.specs.List.{flat_map}
use Rattle.std.specs.Str.{bytes_eq}
use Rattle.chess_types.specs.board.MoveParts.{MoveParts}
use Rattle.chess_types.specs.board.Position.{PositionParts, start}
use Rattle.chess_types.specs.board.Texts.{move_text}
use Rattle.chess_types.specs.board.Legal.{legal_moves}
use Rattle.chess_types.specs.board.Lines.{Line, last, extended}
use Rattle.chess_fen.specs.declared.fault.FenFault.{FenFault}
use Rattle.chess_fen.specs.Reading.{fen_reading}
use Rattle.chess_draws.specs.Pushes.{most_plies}

-- no move is made from the position
abbrev pub from_position : PositionParts → Line
from_position p = record { start = p; moves = [] }

-- the line of the start position without moves
abbrev pub start_line : Line
start_line = from_position start

-- the word `moves`
abbrev pub is_moves : List ℕ → Bool
is_moves word = bytes_eq word (codes "moves")

-- the words before the first `moves`, and those after it
abbrev pub before_moves : List (List ℕ) → List (List ℕ)
before_moves [] = []
before_moves (word ∷ words) = if is_moves word then [] else word ∷ before_moves words

-- the words after the first `moves`
abbrev pub after_moves : List (List ℕ) → List (List ℕ)
after_moves [] = []
after_moves (word ∷ words) = if is_moves word then words else after_moves words

-- where there is a position and no fault
abbrev pub if_read : Result PositionParts FenFault → Option Line
if_read (Ok p) = Some (from_position p)
if_read (Err fault) = None

-- nothing comes after `startpos`
abbrev pub if_alone : List (List ℕ) → Option Line
if_alone [] = Some start_line
if_alone (word ∷ words) = None

-- the words, each with a space after it
abbrev pub spaced : List (List ℕ) → List ℕ
spaced words = flat_map (λ word. word ++ codes " ") words

-- the words after `fen`, separated by spaces, are the FEN
abbrev pub begun_by : List (List ℕ) → Option Line
begun_by [] = None
begun_by (word ∷ words) =
    if bytes_eq word (codes "startpos") then if_alone words
    else if bytes_eq word (codes "fen") then if_read (fen_reading (spaced words))
    else None

-- the legal move that a text in long algebraic notation names
abbrev pub long_move : Line → List ℕ → Option MoveParts
long_move line word = find (λ m. bytes_eq word (move_text m)) (legal_moves (last line))

-- a line has at most 20,000 moves
abbrev pub line_with_move : Line → Option MoveParts → Option Line
line_with_move line None = None
line_with_move line (Some m) = if nat_le most_plies (length line.moves) then None else Some (extended line m)

-- the line with the move of one word more, if the word names one
abbrev pub line_with_word : Option Line → List ℕ → Option Line
line_with_word None word = None
line_with_word (Some line) word = line_with_move line (long_move line word)

-- from left to right; none where a word names no move, or no line is there to begin with
abbrev pub line_played : Option Line → List (List ℕ) → Option Line
line_played line words = fold line_with_word line words

-- the line of a `position`, if its words give one
abbrev pub placed : List (List ℕ) → Option Line
placed words = line_played (begun_by (before_moves words)) (after_moves words)

-- `fen` and a word of a FEN
abbrev pub names_fen : List (List ℕ) → Bool
names_fen (word ∷ next ∷ words) = bytes_eq word (codes "fen")
names_fen _ = false

-- The words up to one of them name legal moves, at most 20,000 of them.
pub record AddsMove (begun : Option Line) (moves : List (List ℕ)) : Type 0 where
  pub done : List (List ℕ)
  pub word : List ℕ
  pub others : List (List ℕ)
  pub whole : moves ≡ done ++ word ∷ others
  pub legal : is_some (line_played begun (done ++ word ∷ [])) ≡ true

-- a position that takes memory: it has a FEN, or moves to add
abbrev pub Grows : List (List ℕ) → Type 0
Grows words = (names_fen (before_moves words) ≡ true) ⊎ AddsMove (begun_by (before_moves words)) (after_moves words)
