-- A law of the best move.
--   BestIsWorth   the best of all legal moves is worth what the line is worth, where the line isn't drawn
use Rattle.std.specs.Prelude.{◌≡◌, ◌≤◌, ℕ, Bool, false, Some, ℤ}
use Rattle.chess_types.specs.board.MoveParts.{MoveParts}
use Rattle.chess_types.specs.board.Legal.{legal_moves}
use Rattle.chess_types.specs.board.Lines.{Line, last}
use Rattle.chess_search.specs.Best.{best}
use Rattle.chess_search.specs.Value.{counts_drawn, value}

abbrev pub BestIsWorth : Type 0
BestIsWorth =
    (claims : Bool) (depth : ℕ) (line : Line) (m : MoveParts) (v : ℤ) → 1 ≤ depth → counts_drawn claims line ≡ false →
    best claims depth line (legal_moves (last line)) ≡ Some (m, v) → value claims depth line 0 ≡ v
