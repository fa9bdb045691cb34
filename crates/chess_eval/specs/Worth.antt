-- What a man is worth on a square, in centipawns, in the middlegame and in the endgame; and what it weighs when one asks how far a game
-- is between the two.
--   from_edge                     how far a file or a rank lies from the nearer edge, 0 to 3
--   own_rank                      the rank as the man's own side counts it, 0 to 7
--   middle_of_kind, end_of_kind   the worths of a kind on a file and a rank of its own side
--   middle_of, end_of             the worths of a man on a square
--   weight_of                     the weight of a kind
use Rattle.std.specs.Prelude.{ℕ, ◌+◌, ◌-◌, ◌*◌, min, ◌==◌, cond, ℤ, pos, ◌+ℤ◌, ◌-ℤ◌, ◌*ℤ◌, neg_ℤ}
use Rattle.chess_types.specs.declared.board.man.Colour.{Colour}
use Rattle.chess_types.specs.declared.board.man.Colour.TheVariants.{White, Black}
use Rattle.chess_types.specs.declared.board.man.Kind.{Kind}
use Rattle.chess_types.specs.declared.board.man.Kind.TheVariants.{Pawn, Knight, Bishop, Rook, Queen, King}
use Rattle.chess_types.specs.declared.board.man.Man.{Man}
use Rattle.chess_types.specs.board.Squares.{file_of, rank_of}

-- 0 on an edge, 3 in the middle
abbrev pub from_edge : ℕ → ℕ
from_edge line = min line (7 - line)

-- 0 for the rank that the side begins on, 7 for the farthest
abbrev pub own_rank : Colour → ℕ → ℕ
own_rank White square = rank_of square
own_rank Black square = 7 - rank_of square

-- a rook is worth more on its seventh rank
abbrev pub rook_bonus : ℕ → ℕ
rook_bonus rank = cond (rank == 6) 10 0

-- in the middlegame, on that file, and that rank of its own side
abbrev pub middle_of_kind : Kind → ℕ → ℕ → ℤ
middle_of_kind Pawn file rank = (pos 100 +ℤ (pos 4 *ℤ (pos rank -ℤ pos 1))) +ℤ pos (3 * from_edge file)
middle_of_kind Knight file rank = pos (308 + 6 * (from_edge file + from_edge rank))
middle_of_kind Bishop file rank = pos (324 + 3 * (from_edge file + from_edge rank))
middle_of_kind Rook file rank = pos (500 + from_edge file + rook_bonus rank)
middle_of_kind Queen file rank = pos (897 + from_edge file + from_edge rank)
middle_of_kind King file rank = neg_ℤ (pos (6 * (from_edge file + from_edge rank)))

-- in the endgame a pawn is worth more, the farther it has come, and a king in the middle; the other men as before
abbrev pub end_of_kind : Kind → ℕ → ℕ → ℤ
end_of_kind Pawn file rank = pos 110 +ℤ (pos 10 *ℤ (pos rank -ℤ pos 1))
end_of_kind Knight file rank = middle_of_kind Knight file rank
end_of_kind Bishop file rank = middle_of_kind Bishop file rank
end_of_kind Rook file rank = middle_of_kind Rook file rank
end_of_kind Queen file rank = middle_of_kind Queen file rank
end_of_kind King file rank = pos (10 * (from_edge file + from_edge rank))

-- the worths of a man on a square
unfoldable pub middle_of : Man → ℕ → ℤ
middle_of man square = middle_of_kind man.kind (file_of square) (own_rank man.colour square)

-- a man's worth on a square in the endgame
unfoldable pub end_of : Man → ℕ → ℤ
end_of man square = end_of_kind man.kind (file_of square) (own_rank man.colour square)

-- 24 in all, as a game begins
abbrev pub weight_of : Kind → ℤ
weight_of Pawn = pos 0
weight_of Knight = pos 1
weight_of Bishop = pos 1
weight_of Rook = pos 2
weight_of Queen = pos 4
weight_of King = pos 0
