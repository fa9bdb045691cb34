-- The words of some bytes: the longest runs of bytes that are no gaps.
--   white_space        the bytes of white space
--   is_gap             the byte is one of the gaps
--   words              the words, in order; none is empty
--   after_first_word   what comes after the first of them
--   trimmed            the bytes without the gaps at their ends
use Rattle.std.specs.Prelude.{ℕ, Bool, ◌==◌, if◌then◌else◌, List, [], ◌∷◌, ◌++◌, reverse}
use Rattle.std.specs.List.{list_any}

-- from the horizontal tab to the carriage return, and the space
abbrev pub white_space : List ℕ
white_space = 9 ∷ 10 ∷ 11 ∷ 12 ∷ 13 ∷ 32 ∷ []

-- the byte is one of those that separate words
abbrev pub is_gap : List ℕ → ℕ → Bool
is_gap gaps b = list_any (λ gap. gap == b) gaps

-- what has been read of a word is a word, unless it is nothing
abbrev pub as_word : List ℕ → List (List ℕ)
as_word [] = []
as_word (b ∷ bs) = (b ∷ bs) ∷ []

-- the words of the bytes, where `begun` stands before them
abbrev pub words_from : List ℕ → List ℕ → List ℕ → List (List ℕ)
words_from gaps begun [] = as_word begun
words_from gaps begun (b ∷ bs) =
    if is_gap gaps b then as_word begun ++ words_from gaps [] bs else words_from gaps (begun ++ b ∷ []) bs

-- the words of the bytes: the longest runs without a byte that separates words
abbrev pub words : List ℕ → List ℕ → List (List ℕ)
words gaps bytes = words_from gaps [] bytes

-- the bytes without the gaps at their beginning
abbrev pub skip_gaps : List ℕ → List ℕ → List ℕ
skip_gaps gaps [] = []
skip_gaps gaps (b ∷ bs) = if is_gap gaps b then skip_gaps gaps bs else b ∷ bs

-- the bytes up to the first gap, and the rest
abbrev pub first_word : List ℕ → List ℕ → List ℕ
first_word gaps [] = []
first_word gaps (b ∷ bs) = if is_gap gaps b then [] else b ∷ first_word gaps bs

-- the bytes after the first word
abbrev pub after_word : List ℕ → List ℕ → List ℕ
after_word gaps [] = []
after_word gaps (b ∷ bs) = if is_gap gaps b then b ∷ bs else after_word gaps bs

-- the same, where gaps may come before it
abbrev pub after_first_word : List ℕ → List ℕ → List ℕ
after_first_word gaps bytes = after_word gaps (skip_gaps gaps bytes)

-- the bytes without the gaps at their end
abbrev pub without_last_gaps : List ℕ → List ℕ → List ℕ
without_last_gaps gaps bytes = reverse (skip_gaps gaps (reverse bytes))

-- the bytes without those that separate words at both ends
abbrev pub trimmed : List ℕ → List ℕ → List ℕ
trimmed gaps bytes = without_last_gaps gaps (skip_gaps gaps bytes)
