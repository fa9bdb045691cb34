-- The key of a board: the sum of one word for each man on its square, modulo 2^64. The 768 words are anyone's choice.
--   place_of     which of the words is that of a man on a square
--   key_word      the word of a man on a square
--   word_there   the word of what stands on a square
--   word_on      the same, on a board
--   key_of       the sum over the squares
--   KeptKey      a key that is kept: the words that it is made of, and the number
--   IsKeyOf      it is the key of the board
-- Boards with the same men on the same squares have the same key; different boards may have the same key, too.
use Rattle.std.specs.Prelude.{◌≡◌, ℕ, ◌+◌, ◌*◌, ◌%◌, ◌^◌, List, slice_index, Option, Some, None, sum_by}
use Rattle.chess_types.specs.declared.board.man.Man.{Man}
use Rattle.chess_types.specs.board.Men.{colour_number, kind_number}
use Rattle.chess_types.specs.board.Board.{Board, Men, man_at}
use Rattle.chess_types.specs.board.Squares.{squares}

-- White's pawn on a1 to h8, then White's knight, bishop, rook, queen and king, then Black's men in that order
abbrev pub place_of : Man → ℕ → ℕ
place_of man square = 64 * (6 * colour_number man.colour + kind_number man.kind) + square

-- the word of a man on a square
abbrev pub key_word : List ℕ → Man → ℕ → ℕ
key_word words man square = slice_index words (place_of man square)

-- nothing, where no man stands
abbrev pub word_there : List ℕ → Option Man → ℕ → ℕ
word_there words None square = 0
word_there words (Some man) square = key_word words man square

-- the word of what the board has on the square
abbrev pub word_on : List ℕ → Men → ℕ → ℕ
word_on words man_on square = word_there words (man_on square) square

-- the words of all men on their squares
unfoldable pub key_of : List ℕ → Men → ℕ
key_of words man_on = sum_by (word_on words man_on) squares % 2 ^ 64

-- the words that a key is made of, and its number
pub record KeptKey : Type 0 where
  pub words : List ℕ
  pub number : ℕ

-- it is the key of the board
abbrev pub IsKeyOf : KeptKey → Board → Type 0
IsKeyOf key board = key.number ≡ key_of key.words (man_at board)
