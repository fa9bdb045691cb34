-- The squares, by number: a1 is 0, b1 is 1, h1 is 7, a2 is 8, h8 is 63 (FIDE Laws, article 2.4).
--   file_of, rank_of   the file and the rank of a square, from 0
--   squares            all 64, in order
--   on_axis            two squares lie on one rank, file or diagonal
--   is_between         a square lies strictly between two others on one rank, file or diagonal
use Rattle.std.specs.Prelude.{ℕ, ◌+◌, ◌-◌, ◌/◌, ◌%◌, ◌==◌, nat_lt, Bool, ◌&&◌, ◌||◌, List}
use Rattle.std.specs.List.{range_with_len}
use Rattle.chess_types.specs.declared.board.axis.Axis.{Axis}
use Rattle.chess_types.specs.declared.board.axis.Axis.TheVariants.{Rank, File, Rising, Falling}

-- the file of a square, from 0 for a
abbrev pub file_of : ℕ → ℕ
file_of s = s % 8

-- the rank of a square, from 0 for rank 1
abbrev pub rank_of : ℕ → ℕ
rank_of s = s / 8

-- a1 to h8
unfoldable pub squares : List ℕ
squares = range_with_len 0 64

-- which rank, file, rising or falling diagonal the square is on
abbrev pub line_of : Axis → ℕ → ℕ
line_of Rank s = rank_of s
line_of File s = file_of s
line_of Rising s = file_of s + (7 - rank_of s)
line_of Falling s = file_of s + rank_of s

-- both squares are on one line of the axis
abbrev pub on_axis : Axis → ℕ → ℕ → Bool
on_axis axis a b = line_of axis a == line_of axis b

-- along one line the squares' numbers rise, so t is strictly between a and b on it exactly where its number is
abbrev pub is_between_on : Axis → ℕ → ℕ → ℕ → Bool
is_between_on axis a b t = on_axis axis a t && on_axis axis b t && ((nat_lt a t && nat_lt t b) || (nat_lt b t && nat_lt t a))

-- strictly between, on one rank, file or diagonal
unfoldable pub is_between : ℕ → ℕ → ℕ → Bool
is_between a b t =
    is_between_on Rank a b t || is_between_on File a b t || is_between_on Rising a b t || is_between_on Falling a b t
