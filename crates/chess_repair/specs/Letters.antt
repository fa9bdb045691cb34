-- Games with the piece letters of another language.
--   are_letters   five different capital letters of ASCII
--   IsOfLetters   a text has the letters of a language: the king's, the queen's, the rook's, the bishop's and the knight's
--   standard      the standard's letter for a man's letter; another byte itself
--   after_byte    the place of the next byte: among the moves, in a tag, in its value, or in a comment
--   is_of_moves   a byte stands among the moves, and may be a letter of a man
--   IsRespelled   a text with letters of men written as the standard's: each byte is unchanged, or it stands among the moves and becomes the standard's letter
--   IsInLetters   the same where letters of a language are given; else the text itself
use Rattle.std.specs.Prelude.{◌≡◌, ◌⊎◌, ℕ, Bool, true, false, ◌&&◌, ◌==◌, not, nat_le, if◌then◌else◌, List, [], ◌∷◌, length, Option, Some, None, ⊤}
use Rattle.std.specs.Str.{byte}
use Rattle.std.specs.List.{list_any}
use Rattle.chess_repair.specs.declared.letters.Letters.{Letters}
use Rattle.chess_repair.specs.declared.standing.Standing.{Standing}
use Rattle.chess_repair.specs.declared.standing.Standing.TheVariants as place

-- a capital letter of ASCII
unfoldable pub is_capital : ℕ → Bool
is_capital b = nat_le (byte "A") b && nat_le b (byte "Z")

-- capital letters, none of which comes twice
abbrev pub are_different : List ℕ → Bool
are_different [] = true
are_different (b ∷ bs) = (is_capital b && not (list_any (λ c. c == b) bs)) && are_different bs

abbrev pub are_letters : List ℕ → Bool
are_letters text = (length text == 5) && are_different text

abbrev pub IsOfLetters : List ℕ → Letters → Type 0
IsOfLetters text l = (are_letters text ≡ true) × (text ≡ l.king ∷ l.queen ∷ l.rook ∷ l.bishop ∷ l.knight ∷ [])

-- PGN 8.2.3.2
unfoldable pub standard : Letters → ℕ → ℕ
standard l b =
    if b == l.king then byte "K"
    else (if b == l.queen then byte "Q" else (if b == l.rook then byte "R" else (if b == l.bishop then byte "B" else (if b == l.knight then byte "N" else b))))

-- ---- the place of a byte

-- [ begins a tag, { a comment up to its right brace, ; one up to the end of its line (PGN 5)
abbrev pub after_move_byte : ℕ → Standing
after_move_byte b = if b == byte "[" then place.Tag else (if b == byte "{" then place.Comment else (if b == byte ";" then place.Rest else (if b == 10 then place.Line else place.Moves)))

-- a % in the first column hides its line (PGN 6); a value ends at a quotation mark that isn't escaped, and a tag after its value at a right bracket, both with their line
abbrev pub after_byte : Standing → ℕ → Standing
after_byte place.Line b = if b == byte "%" then place.Rest else after_move_byte b
after_byte place.Moves b = after_move_byte b
after_byte place.Tag b = if b == byte "\"" then place.Value else (if b == byte "]" then place.Moves else place.Tag)
after_byte place.Value b = if b == byte "\"" then place.AfterValue else (if b == byte "\\" then place.Escaped else (if b == 10 then place.Line else place.Value))
after_byte place.Escaped b = if b == 10 then place.Line else place.Value
after_byte place.AfterValue b = if b == byte "\"" then place.Value else (if b == byte "]" then place.Moves else (if b == 10 then place.Line else place.AfterValue))
after_byte place.Comment b = if b == byte "}" then place.Moves else place.Comment
after_byte place.Rest b = if b == 10 then place.Line else place.Rest

abbrev pub is_of_moves : Standing → Bool
is_of_moves place.Line = true
is_of_moves place.Moves = true
is_of_moves _ = false

-- ---- a text that is respelled

-- a byte at a place
abbrev pub IsSpeltAs : Letters → Standing → ℕ → ℕ → Type 0
IsSpeltAs l standing was now = (now ≡ was) ⊎ ((is_of_moves standing ≡ true) × (now ≡ standard l was))

-- a text from a place on
abbrev pub IsRespelledAfter : Letters → Standing → List ℕ → List ℕ → Type 0
IsRespelledAfter l standing [] [] = ⊤
IsRespelledAfter l standing [] (now ∷ spelt) = ⊥
IsRespelledAfter l standing (was ∷ text) [] = ⊥
IsRespelledAfter l standing (was ∷ text) (now ∷ spelt) = IsSpeltAs l standing was now × IsRespelledAfter l (after_byte standing was) text spelt

abbrev pub IsRespelled : Letters → List ℕ → List ℕ → Type 0
IsRespelled l text spelt = IsRespelledAfter l place.Line text spelt

abbrev pub IsInLetters : Option Letters → List ℕ → List ℕ → Type 0
IsInLetters None text spelt = spelt ≡ text
IsInLetters (Some l) text spelt = IsRespelled l text spelt
