-- A text in lines of at most 79 bytes (PGN 4.3, 8.2.1).
--   line_width   the most bytes of a line
--   lay          words after a line of `column` bytes: each after a space, or on a new line where the line would be too long
--   in_lines     the words of a text, separated by spaces, in such lines; a longer word is alone on its line
use Rattle.std.specs.Prelude.{ℕ, ◌+◌, nat_le, if◌then◌else◌, List, [], ◌∷◌, ◌++◌, length, codes}
use Rattle.std.specs.Str.{byte}
use Rattle.byte_streams.specs.Words.{words}

-- the most bytes of a line, without its line feed
abbrev pub line_width : ℕ
line_width = 79

-- words after a line of `column` bytes
abbrev pub lay : ℕ → List (List ℕ) → List ℕ
lay column [] = []
lay column (word ∷ others) =
    if nat_le (column + 1 + length word) line_width then byte " " ∷ (word ++ lay (column + 1 + length word) others)
    else 10 ∷ (word ++ lay (length word) others)

-- words in such lines, from the beginning of one
abbrev pub laid : List (List ℕ) → List ℕ
laid [] = []
laid (word ∷ others) = word ++ lay (length word) others

-- the words of a text in such lines
abbrev pub in_lines : List ℕ → List ℕ
in_lines text = laid (words (codes " ") text)
