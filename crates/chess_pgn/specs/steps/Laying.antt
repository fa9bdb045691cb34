-- A text that is laid in lines byte by byte.
use Rattle.std.specs.Prelude.{◌≡◌, ℕ, List, [], ◌∷◌, ◌++◌, length, codes}
use Rattle.std.specs.Str.{byte}
use Rattle.byte_streams.specs.Words.{words_from}
use Rattle.chess_pgn.specs.Layout.{lay, line_width}

-- After `before`, and an empty line, the text so far is laid in lines, but for a word that has begun, after a space: that line
-- has `column` bytes before the space, which is at `space`.
pub record Lays (before laid : List ℕ) (space column : ℕ) (text : List ℕ) : Type 0 where
  pub done : List ℕ
  pub begun : List ℕ
  pub parts : laid ≡ done ++ byte " " ∷ begun
  pub place : length done ≡ space
  pub on : (rest : List ℕ) → before ++ lay line_width (words_from (codes " ") [] (text ++ rest)) ≡ done ++ lay column (words_from (codes " ") begun rest)
