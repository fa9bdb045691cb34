-- What the dead positions have to do with mate (FIDE Laws, articles 5.1.1 and 5.2.2).
--   is_mate          the side to move is in check and has no legal move
--   AreListed        moves one after another, each on the list of legal moves of the position where it is made
--   DeadStays        a legal move from a dead position leads to a dead one
--   DeadHasNoMate    no dead position is a mate
--   DeadIsForever    so no series of legal moves from a dead position ends in mate
--   TwoKingsAreDead  two kings alone are dead
use Rattle.std.specs.Prelude.{◌≡◌, ◌&&◌, Bool, true, false, ⊤, List, [], ◌∷◌}
use Rattle.std.specs.List.{Contains}
use Rattle.chess_types.specs.declared.board.man.Colour.TheVariants.{White, Black}
use Rattle.chess_types.specs.board.MoveParts.{MoveParts}
use Rattle.chess_types.specs.board.Men.{men_of}
use Rattle.chess_types.specs.board.Attack.{in_check}
use Rattle.chess_types.specs.board.Position.{PositionParts, IsWellFormed, man_on}
use Rattle.chess_types.specs.board.After.{after}
use Rattle.chess_types.specs.board.Legal.{legal_moves}
use Rattle.chess_types.specs.board.Lines.{play}
use Rattle.chess_types.specs.board.Outcome.{is_without}
use Rattle.chess_types.specs.board.Dead.{is_dead}

-- in check and without a legal move (5.1.1)
abbrev pub is_mate : PositionParts → Bool
is_mate p = is_without (legal_moves p) && in_check (man_on p) p.side

-- each move is a legal one of the position where it is made
abbrev pub AreListed : PositionParts → List MoveParts → Type 0
AreListed p [] = ⊤
AreListed p (m ∷ moves) = Contains (legal_moves p) m × AreListed (after p m) moves

-- a dead position stays dead
abbrev pub DeadStays : Type 0
DeadStays = (p : PositionParts) (m : MoveParts) → IsWellFormed p → Contains (legal_moves p) m → is_dead p ≡ true → is_dead (after p m) ≡ true

-- it is no mate
abbrev pub DeadHasNoMate : Type 0
DeadHasNoMate = (p : PositionParts) → IsWellFormed p → is_dead p ≡ true → is_mate p ≡ false

-- and no legal moves lead from it to one (5.2.2)
abbrev pub DeadIsForever : Type 0
DeadIsForever = (p : PositionParts) (moves : List MoveParts) → IsWellFormed p → is_dead p ≡ true → AreListed p moves → is_mate (play p moves) ≡ false

-- two kings alone are on the list
abbrev pub TwoKingsAreDead : Type 0
TwoKingsAreDead = (p : PositionParts) → IsWellFormed p → men_of p.placement White ≡ 1 → men_of p.placement Black ≡ 1 → is_dead p ≡ true
