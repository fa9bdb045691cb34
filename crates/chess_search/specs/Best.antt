-- The best of some moves.
--   best_by   the first of them that is worth most, and its worth
--   best      the best of some moves of a line, by their worth at a depth
--   AtRoot    a search to that depth may begin at a line
--   IsAsked   and some moves are its roots
use Rattle.std.specs.Prelude.{◌≡◌, ◌≤◌, ℕ, ◌-◌, Bool, true, List, map, Option, ℤ, find}
use Rattle.std.specs.List.{All}
use Rattle.std.specs.Ordering.{int_eq}
use Rattle.std.specs.Option.{option_map}
use Rattle.chess_types.specs.board.MoveParts.{MoveParts}
use Rattle.chess_types.specs.board.Legal.{is_legal}
use Rattle.chess_types.specs.board.Lines.{Line, last}
use Rattle.chess_draws.specs.LineParts.{LineParts}
use Rattle.chess_search.specs.Value.{greatest, worth}

-- none of no moves
abbrev pub best_by : (MoveParts → ℤ) → List MoveParts → Option (MoveParts × ℤ)
best_by worth moves = option_map (λ m. (m, greatest (map worth moves))) (find (λ m. int_eq (worth m) (greatest (map worth moves))) moves)

-- at that depth, of at least one move; draws that may be claimed count or don't
abbrev pub best : Bool → ℕ → Line → List MoveParts → Option (MoveParts × ℤ)
best claims depth line roots = best_by (worth claims (depth - 1) line 0) roots

-- no move is looked at, and the depth is 1 to 16 moves
pub record AtRoot (line : LineParts) (depth : ℕ) : Type 0 where
  pub none : line.looked ≡ 0
  pub deep : 1 ≤ depth
  pub shallow : depth ≤ 16

-- a search of some legal moves
pub record IsAsked (line : LineParts) (depth : ℕ) (roots : List MoveParts) : Type 0 where
  pub root : AtRoot line depth
  pub legal : All (λ m. is_legal (last line.line) m ≡ true) roots
