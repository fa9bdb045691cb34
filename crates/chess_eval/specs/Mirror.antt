-- A board seen from the other side: its ranks turned round, and the men's colours changed.
--   across     the square on the same file, as far from the eighth rank as the square is from the first
--   recoloured what stands on a square, in the other colour
--   mirrored   the board so seen
--   IsMirror   a board is another one so seen
use Rattle.std.specs.Prelude.{◌≡◌, ℕ, ◌+◌, ◌-◌, ◌*◌, ◌<◌, Option, Some, None}
use Rattle.chess_types.specs.declared.board.man.Man.{Man}
use Rattle.chess_types.specs.board.Board.{Board, Men, man_at}
use Rattle.chess_types.specs.board.Men.{opponent}
use Rattle.chess_types.specs.board.Squares.{file_of, rank_of}

-- e2 for e7, and e7 for e2
abbrev pub across : ℕ → ℕ
across square = 8 * (7 - rank_of square) + file_of square

-- what is on a square, in the other colour
abbrev pub recoloured : Option Man → Option Man
recoloured None = None
recoloured (Some man) = Some (record man { colour = opponent man.colour })

-- the board seen from the other side
abbrev pub mirrored : Men → Men
mirrored man_on square = recoloured (man_on (across square))

-- one board is the other seen from the other side
abbrev pub IsMirror : Board → Board → Type 0
IsMirror board other = (square : ℕ) → square < 64 → man_at other square ≡ mirrored (man_at board) square
