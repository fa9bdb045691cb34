-- A line: a position and the moves made from it, one after the other (FIDE Laws, article 1.3).
--   Line        where it begins, and its moves
--   play        the position after some moves
--   AreLegal    each move is legal where it is made
--   last        the line's last position
--   positions   all its positions, from the first to the last
--   extended    the line with one move more
use Rattle.std.specs.Prelude.{◌≡◌, true, ⊤, List, [], ◌∷◌, ◌++◌}
use Rattle.chess_types.specs.board.MoveParts.{MoveParts}
use Rattle.chess_types.specs.board.Position.{PositionParts}
use Rattle.chess_types.specs.board.After.{after}
use Rattle.chess_types.specs.board.Legal.{is_legal}

-- a game: its first position and the moves made from it
pub record Line : Type 0 where
  pub start : PositionParts
  pub moves : List MoveParts

-- the position after the moves
abbrev pub play : PositionParts → List MoveParts → PositionParts
play p [] = p
play p (m ∷ moves) = play (after p m) moves

-- each move is legal where it is made (3.10.1)
abbrev pub AreLegal : PositionParts → List MoveParts → Type 0
AreLegal p [] = ⊤
AreLegal p (m ∷ moves) = (is_legal p m ≡ true) × AreLegal (after p m) moves

-- the position before each move, and the last
abbrev pub positions_from : PositionParts → List MoveParts → List PositionParts
positions_from p [] = p ∷ []
positions_from p (m ∷ moves) = p ∷ positions_from (after p m) moves

-- the position after all moves of the line
unfoldable pub last : Line → PositionParts
last line = play line.start line.moves

-- the positions of the line, the first and that after each move
unfoldable pub positions : Line → List PositionParts
positions line = positions_from line.start line.moves

-- the same line, and one move more
abbrev pub extended : Line → MoveParts → Line
extended line m = record { start = line.start; moves = line.moves ++ m ∷ [] }
