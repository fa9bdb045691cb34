-- The leaves of the tree of legal moves: the field's own check of a move list ("perft").
--   leaves_of   the positions a given number of plies on, once for each line of legal moves that leads there
use Rattle.std.specs.Prelude.{ℕ, zero, suc, sum_by}
use Rattle.chess_types.specs.board.Position.{PositionParts}
use Rattle.chess_types.specs.board.After.{after}
use Rattle.chess_types.specs.board.Legal.{legal_moves}

-- the position itself at depth 0, else the leaves after each legal move, at one ply less
unfoldable pub leaves_of : ℕ → PositionParts → ℕ
leaves_of zero p = 1
leaves_of (suc n) p = sum_by (λ m. leaves_of n (after p m)) (legal_moves p)
