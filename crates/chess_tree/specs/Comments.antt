-- The text of a comment (PGN 5).
--   blanks       the bytes of whitespace
--   normalised   the words, one space between two
--   with_next_word    a word more after a text, after a space unless it is the first
--   has_brace    a right brace is in it, which would end the comment
--   IsComment    the text of a comment: normalised, and without a right brace
use Rattle.std.specs.Prelude.{◌≡◌, ℕ, Bool, false, ◌==◌, List, [], ◌∷◌, ◌++◌}
use Rattle.std.specs.List.{join_with_byte, list_any}
use Rattle.byte_streams.specs.Words.{white_space, words}

-- from the horizontal tab to the carriage return, and the space
abbrev pub blanks : List ℕ
blanks = white_space

-- each run of whitespace is one space, and there is none at the ends
unfoldable pub normalised : List ℕ → List ℕ
normalised text = join_with_byte 32 (words blanks text)

-- a word more
abbrev pub with_next_word : List ℕ → List ℕ → List ℕ
with_next_word [] word = word
with_next_word (b ∷ text) word = (b ∷ text) ++ 32 ∷ word

-- a right brace is in the text
abbrev pub has_brace : List ℕ → Bool
has_brace text = list_any (λ b. b == 125) text

-- normalised, and without a right brace
pub record IsComment (text : List ℕ) : Type 0 where
  pub normal : normalised text ≡ text
  pub no_brace : has_brace text ≡ false
