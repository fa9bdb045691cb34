-- A word as a set of squares: the bit of each square is 1 where the set holds it.
--   squares_of   the squares whose bits are 1, in ascending order
--   set_of       the set of them
--   word_where   the word of the squares that pass a test; table_of, such a word for each square
--   bits_of      the word of a set
use Rattle.std.specs.Prelude.{ℕ, ◌==◌, Bool, List, filter, map}
use Rattle.std.specs.Int.{bit_at}
use Rattle.std.specs.Ordering.{nat_cmp}
use Rattle.std.specs.FinSet.{FinSet, contains, from_list}
use lib.Lanes.{mask_l}
use Rattle.chess_types.specs.board.Squares.{squares}

-- the squares whose bits are 1, in ascending order
abbrev pub squares_of : ℕ → List ℕ
squares_of bits = filter (λ s. bit_at bits s == 1) squares

-- the set of the squares whose bits are 1
abbrev pub set_of : ℕ → FinSet nat_cmp
set_of bits = from_list (squares_of bits)

-- the word whose bits are 1 for the squares of the set
unfoldable pub bits_of : FinSet nat_cmp → ℕ
bits_of set = mask_l (map (contains set) squares)

-- the word of the squares that pass a test, and such words for each square, by a test of two
unfoldable pub word_where : (ℕ → Bool) → ℕ
word_where test = mask_l (map test squares)

-- for each square the word of the squares that pass a test with it
unfoldable pub table_of : (ℕ → ℕ → Bool) → List ℕ
table_of test = map (λ a. word_where (test a)) squares
