-- What a line is worth to the side to move, searched to a depth: plain minimax over the legal moves, with no cutoff and no order of moves.
--   evaluation_for   the evaluation of a position for the side to move
--   counts_drawn     a line that counts as drawn though its last position has a legal move
--   ended            the value of a line at which the game is over or drawn; none where play goes on
--   greatest         the greatest of some numbers, at least one
--   value            the value of a line, searched to a depth, `distance` moves from the root
--   worth            what a move is worth to the side that makes it
-- A mate is worth 30,000 less the moves from the root to it, so that the nearest mate is the best; every other value lies far below.
use Rattle.std.specs.Prelude.{ℕ, zero, suc, ◌+◌, Bool, ◌&&◌, ◌||◌, if◌then◌else◌, List, [], ◌∷◌, map, Option, Some, None, unwrap_or, ℤ, pos, neg_ℤ, ◌-ℤ◌, fold}
use Rattle.std.specs.Int.{int_max}
use Rattle.chess_types.specs.board.Attack.{in_check}
use Rattle.chess_types.specs.board.MoveParts.{MoveParts}
use Rattle.chess_types.specs.board.Position.{PositionParts, man_on}
use Rattle.chess_types.specs.board.Legal.{legal_moves}
use Rattle.chess_types.specs.board.Lines.{Line, last, extended}
use Rattle.chess_types.specs.board.Outcome.{is_without}
use Rattle.chess_eval.specs.Evaluation.{for_white, evaluation}
use Rattle.chess_draws.specs.Draws.{is_drawn, is_claimable}

-- White's centipawns where White has the move, else Black's
abbrev pub evaluation_for : PositionParts → ℤ
evaluation_for p = for_white p.side (evaluation (man_on p))

-- dead, five times there or 75 moves without a capture or a pawn's move (5.2.2, 9.6); and, where draws that may be claimed count,
-- three times there or 50 such moves (9.2, 9.3)
abbrev pub counts_drawn : Bool → Line → Bool
counts_drawn claims line = is_drawn line || (claims && is_claimable line)

-- mated (5.1.1), `distance` moves from the root; stalemate (5.2.1); or drawn
unfoldable pub ended : Bool → Line → ℕ → Option ℤ
ended claims line distance =
    if is_without (legal_moves (last line))
    then Some (if in_check (man_on (last line)) (last line).side then pos distance -ℤ pos 30000 else pos 0)
    else (if counts_drawn claims line then Some (pos 0) else None)

-- the greatest of some values, 0 of none
abbrev pub greatest : List ℤ → ℤ
greatest [] = pos 0
greatest (v ∷ vs) = fold int_max v vs

-- where play goes on: the evaluation at the end of the search, and before it what the best move is worth
abbrev pub value : Bool → ℕ → Line → ℕ → ℤ
value claims zero line distance = unwrap_or (ended claims line distance) (evaluation_for (last line))
value claims (suc depth) line distance =
    unwrap_or (ended claims line distance)
    (greatest (map (λ m. neg_ℤ (value claims depth (extended line m) (distance + 1))) (legal_moves (last line))))

-- the value of the line with that move for the other side, negated
abbrev pub worth : Bool → ℕ → Line → ℕ → MoveParts → ℤ
worth claims depth line distance m = neg_ℤ (value claims depth (extended line m) (distance + 1))
