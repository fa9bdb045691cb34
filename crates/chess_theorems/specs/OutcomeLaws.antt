-- What the status and the claims of a line have to do with its last position and the next (FIDE Laws, articles 5.1.1, 5.2.1, 9.2 and 9.3).
--   MateIsMate       the status is mate exactly where the last position is a mate
--   StalemateIsNone  and stalemate exactly where it has no legal move and no check
--   DrawsAreClaimable  a draw by the fifth repetition or by 75 moves has the ground of a claim, too: three repetitions, or 50 moves by each side
--   ClaimsEnd        nothing may be claimed once the game is over
--   ClaimsAgree      what may be claimed with a legal move may be claimed after it, and nothing else, while the game goes on
use Rattle.std.specs.Prelude.{◌≡◌, ◌&&◌, not, Bool, true, false, Some, ◌≤◌}
use Rattle.chess_types.specs.declared.board.outcome.Status.{Status}
use Rattle.chess_types.specs.declared.board.outcome.Status.TheVariants.{Mate, Stalemate, Fivefold, Seventyfive}
use Rattle.chess_types.specs.board.MoveParts.{MoveParts}
use Rattle.chess_types.specs.board.Attack.{in_check}
use Rattle.chess_types.specs.board.Position.{man_on}
use Rattle.chess_types.specs.board.Legal.{is_legal, legal_moves}
use Rattle.chess_types.specs.board.Lines.{Line, last, extended}
use Rattle.chess_types.specs.board.Outcome.{is_without, is_play, status, claims, claims_with}
use Rattle.chess_types.specs.board.Repetition.{repetitions}
use Rattle.chess_theorems.specs.DeadLaws.{is_mate}

-- mate
abbrev pub shows_mate : Status → Bool
shows_mate Mate = true
shows_mate _ = false

-- stalemate
abbrev pub shows_stalemate : Status → Bool
shows_stalemate Stalemate = true
shows_stalemate _ = false

-- mate is never called a draw, and no draw mate (5.1.1)
abbrev pub MateIsMate : Type 0
MateIsMate = (line : Line) → shows_mate (status line) ≡ is_mate (last line)

-- no legal move and no check (5.2.1)
abbrev pub StalemateIsNone : Type 0
StalemateIsNone =
    (line : Line) → shows_stalemate (status line) ≡ (is_without (legal_moves (last line)) && not (in_check (man_on (last line)) (last line).side))

-- the fifth repetition
abbrev pub shows_fivefold : Status → Bool
shows_fivefold Fivefold = true
shows_fivefold _ = false

-- 75 moves of each side
abbrev pub shows_seventyfive : Status → Bool
shows_seventyfive Seventyfive = true
shows_seventyfive _ = false

-- what ends the game by itself has what a claim asks for, too (9.2, 9.3, 9.6)
abbrev pub DrawsAreClaimable : Type 0
DrawsAreClaimable =
    (line : Line) →
    (shows_fivefold (status line) ≡ true → 3 ≤ repetitions line) × (shows_seventyfive (status line) ≡ true → 100 ≤ (last line).clock)

-- neither draw may be claimed after the end (9.6, 5.1, 5.2)
abbrev pub ClaimsEnd : Type 0
ClaimsEnd = (line : Line) → is_play (status line) ≡ false → claims line ≡ record { threefold = false; fifty = false }

-- a claim with a move is the claim that could be made after it (9.2.1, 9.2.2, 9.3.1, 9.3.2)
abbrev pub ClaimsAgree : Type 0
ClaimsAgree =
    (line : Line) (m : MoveParts) → is_legal (last line) m ≡ true → is_play (status line) ≡ true → is_play (status (extended line m)) ≡ true →
    claims_with line m ≡ Some (claims (extended line m))
