-- FEN tags whose value spells no position, and the tags that are written for them.
--   fen_value     the bytes after the first quotation mark of a FEN tag
--   next_word     the text without its first word and the blanks after that; a word of a value ends at whitespace or at the next quotation mark
--   third         the value without its first two words: its third word has the castling rights
--   value_end     the text without the value: it begins with the second quotation mark
--   missing_ends  the fields that a value lacks: if it has three words, the target and both counters; if it has five, the second counter
--   standard_rights  the standard's letters for castling rights, which a field has by the files of the corners or in these letters
--   IsFen         the tag is left out if its value has only blanks and question marks; or the missing fields are added at the value's end; or the third word
--                 gets the standard's letters for the same rights. All other bytes are unchanged
use Rattle.std.specs.Prelude.{◌≡◌, ◌⊎◌, ℕ, Bool, true, false, ◌||◌, ◌&&◌, ◌==◌, not, nat_le, if◌then◌else◌, List, [], ◌∷◌, ◌++◌, Option, Some, None, codes}
use Rattle.std.specs.Str.{byte}
use Rattle.std.specs.List.{list_all, list_any}
use Rattle.chess_items.specs.Items.{is_blank}
use Rattle.chess_repair.specs.Runs.{has_first, past}
use Rattle.chess_repair.specs.Tags.{is_quote}

-- ---- the value

-- after a quotation mark
abbrev pub quoted_value : List ℕ → Option (List ℕ)
quoted_value [] = None
quoted_value (b ∷ value) = if is_quote b then Some value else None

-- after the name FEN and a quotation mark
abbrev pub after_fen : List ℕ → Option (List ℕ)
after_fen (f ∷ e ∷ n ∷ more) = if (f == byte "F" && e == byte "E") && n == byte "N" then quoted_value (past is_blank more) else None
after_fen _ = None

abbrev pub fen_value : List ℕ → Option (List ℕ)
fen_value [] = None
fen_value (b ∷ more) = if b == byte "[" then after_fen (past is_blank more) else None

-- a byte of a word
unfoldable pub in_word : ℕ → Bool
in_word b = not (is_blank b || is_quote b)

-- a byte of the value
unfoldable pub in_value : ℕ → Bool
in_value b = not (is_quote b)

-- of a value that has no position
unfoldable pub says_none : ℕ → Bool
says_none b = is_blank b || b == byte "?"

abbrev pub next_word : List ℕ → List ℕ
next_word text = past is_blank (past in_word text)

abbrev pub third : List ℕ → List ℕ
third value = next_word (next_word (past is_blank value))

abbrev pub value_end : List ℕ → List ℕ
value_end value = past in_value value

-- ---- the fields at its end

-- a word begins here, and no word comes after it
abbrev pub is_last_word : List ℕ → Bool
is_last_word text = has_first in_word text && not (has_first in_word (next_word text))

abbrev pub missing_ends : List ℕ → Option (List ℕ)
missing_ends from =
    if is_last_word from then Some (codes " - 0 1") else (if is_last_word (next_word (next_word from)) then Some (codes " 1") else None)

-- ---- castling rights

-- the standard's letter for a right by the file of the rook in its corner
unfoldable pub right : ℕ → ℕ
right b = if b == byte "H" then byte "K" else (if b == byte "A" then byte "Q" else (if b == byte "h" then byte "k" else (if b == byte "a" then byte "q" else b)))

-- a right by a file, or in the standard's letters
unfoldable pub is_right : ℕ → Bool
is_right b =
    (nat_le (byte "A") b && nat_le b (byte "H")) || (nat_le (byte "a") b && nat_le b (byte "h")) || b == byte "K" || b == byte "Q" || b == byte "k" || b == byte "q"

-- a right, if the field has it
abbrev pub if_right : List ℕ → ℕ → List ℕ
if_right field wanted = if list_any (λ b. right b == wanted) field then wanted ∷ [] else []

-- the sign of no right at all
abbrev pub or_no_right : List ℕ → List ℕ
or_no_right [] = codes "-"
or_no_right (b ∷ bs) = b ∷ bs

abbrev pub standard_rights : List ℕ → List ℕ
standard_rights field =
    or_no_right (if_right field (byte "K") ++ (if_right field (byte "Q") ++ (if_right field (byte "k") ++ if_right field (byte "q"))))

-- ---- what is written

-- the value has no position
abbrev pub IsLeftOut : List ℕ → List ℕ → Type 0
IsLeftOut value now = (has_first in_value (past says_none value) ≡ false) × (now ≡ [])

-- fields are added at the value's end
abbrev pub IsLonger : List ℕ → List ℕ → List ℕ → Type 0
IsLonger was value now = (more before : List ℕ) × (missing_ends (third value) ≡ Some more) × (was ≡ before ++ value_end value) × (now ≡ before ++ (more ++ value_end value))

-- the third word has the same rights in the standard's letters
abbrev pub IsRighted : List ℕ → List ℕ → List ℕ → Type 0
IsRighted was value now =
    (before field : List ℕ) × (was ≡ before ++ third value) × (third value ≡ field ++ past in_word (third value)) × (list_all is_right field ≡ true) × (field ≡ [] → ⊥)
    × (now ≡ before ++ (standard_rights field ++ past in_word (third value)))

-- a FEN tag has a value, and one of these is written
abbrev pub IsFenOf : Option (List ℕ) → List ℕ → List ℕ → Type 0
IsFenOf None was now = ⊥
IsFenOf (Some value) was now = IsLeftOut value now ⊎ (IsLonger was value now ⊎ IsRighted was value now)

abbrev pub IsFen : List ℕ → List ℕ → Type 0
IsFen was now = IsFenOf (fen_value was) was now
