-- Draws as a search counts them, in a position in which there is a legal move.
--   is_drawn_at       the game is over all the same, by the position and its repetitions; is_drawn, of a line
--   is_claimable_at   a draw could be claimed; is_claimable, of a line
use Rattle.std.specs.Prelude.{ℕ, nat_le, Bool, ◌||◌}
use Rattle.chess_types.specs.board.Position.{PositionParts}
use Rattle.chess_types.specs.board.Lines.{Line, last}
use Rattle.chess_types.specs.board.Repetition.{repetitions}
use Rattle.chess_types.specs.board.Dead.{is_dead}

-- dead (5.2.2), five times the same position (9.6.1), 75 moves without a capture or a pawn's move (9.6.2)
abbrev pub is_drawn_at : PositionParts → ℕ → Bool
is_drawn_at p count = is_dead p || nat_le 5 count || nat_le 150 p.clock

-- three times the same position (9.2), 50 moves without a capture or a pawn's move (9.3)
abbrev pub is_claimable_at : PositionParts → ℕ → Bool
is_claimable_at p count = nat_le 3 count || nat_le 100 p.clock

-- the game of the line is drawn
unfoldable pub is_drawn : Line → Bool
is_drawn line = is_drawn_at (last line) (repetitions line)

-- a draw may be claimed
unfoldable pub is_claimable : Line → Bool
is_claimable line = is_claimable_at (last line) (repetitions line)
