-- How a line stands, and which draws may be claimed (FIDE Laws, articles 5.1, 5.2, 9.2, 9.3 and 9.6).
--   status_at     the first that holds of mate, stalemate, dead, fivefold, seventyfive and play, from the position and its repetitions
--   status        of a line
--   status_text   the word of how a line stands
--   winner        the side that has mated the other
--   claims_at     what may be claimed in play
--   claims        of a line; claims_with, with a named move that is not made yet
-- After dead, fivefold and seventyfive the game is over, but analysis may go on: further moves are made as ever.
use Rattle.std.specs.Prelude.{ℕ, nat_le, Bool, true, false, ◌&&◌, if◌then◌else◌, List, [], ◌∷◌, Option, Some, None, codes}
use Rattle.chess_types.specs.declared.board.outcome.Status.{Status}
use Rattle.chess_types.specs.declared.board.outcome.Status.TheVariants.{Mate, Stalemate, Dead, Fivefold, Seventyfive, Play}
use Rattle.chess_types.specs.declared.board.outcome.Claims.{Claims}
use Rattle.chess_types.specs.declared.board.man.Colour.{Colour}
use Rattle.chess_types.specs.board.Men.{opponent}
use Rattle.chess_types.specs.board.Attack.{in_check}
use Rattle.chess_types.specs.board.MoveParts.{MoveParts}
use Rattle.chess_types.specs.board.Position.{PositionParts, man_on}
use Rattle.chess_types.specs.board.Legal.{is_legal, legal_moves}
use Rattle.chess_types.specs.board.Lines.{Line, last, extended}
use Rattle.chess_types.specs.board.Repetition.{repetitions}
use Rattle.chess_types.specs.board.Dead.{is_dead}

-- the list has no move
abbrev pub is_without : List MoveParts → Bool
is_without [] = true
is_without (m ∷ moves) = false

-- mate (5.1.1), stalemate (5.2.1), dead (5.2.2), five times the same position (9.6.1), 75 moves without a capture or a pawn's move
-- (9.6.2), unless the last of them mates; else the game goes on
unfoldable pub status_at : PositionParts → ℕ → Status
status_at p count =
    if is_without (legal_moves p) then (if in_check (man_on p) p.side then Mate else Stalemate)
    else (if is_dead p then Dead else (if nat_le 5 count then Fivefold else (if nat_le 150 p.clock then Seventyfive else Play)))

-- how the game of the line has ended, or that it goes on
unfoldable pub status : Line → Status
status line = status_at (last line) (repetitions line)

-- the word for it
abbrev pub status_text : Status → List ℕ
status_text Mate = codes "mate"
status_text Stalemate = codes "stalemate"
status_text Dead = codes "dead"
status_text Fivefold = codes "fivefold"
status_text Seventyfive = codes "seventyfive"
status_text Play = codes "play"

-- the game goes on
abbrev pub is_play : Status → Bool
is_play Play = true
is_play _ = false

-- the opponent of a side that is mated (1.4.1, 5.1.1)
abbrev pub winner : PositionParts → Option Colour
winner p = if is_without (legal_moves p) && in_check (man_on p) p.side then Some (opponent p.side) else None

-- three times the same position (9.2), 50 moves without a capture or a pawn's move (9.3); neither where the game is over
abbrev pub claims_at : Bool → ℕ → ℕ → Claims
claims_at in_play count clock = record { threefold = in_play && nat_le 3 count; fifty = in_play && nat_le 100 clock }

-- in the position as it stands (9.2.2, 9.3.2)
unfoldable pub claims : Line → Claims
claims line = claims_at (is_play (status line)) (repetitions line) (last line).clock

-- with a legal move that the player means to make, in the position after it (9.2.1, 9.3.1); none with any other move
unfoldable pub claims_with : Line → MoveParts → Option Claims
claims_with line m =
    if is_legal (last line) m
    then Some (claims_at (is_play (status line)) (repetitions (extended line m)) (last (extended line m)).clock) else None
