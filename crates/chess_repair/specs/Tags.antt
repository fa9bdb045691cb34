-- Tags that strict reading refuses, and the tags that they mean.
--   begins_tag      a tag begins here: a left bracket, a name and a quotation mark, perhaps with blanks between them
--   opens_tag       a tag may begin here: a left bracket and a byte of a name
--   after_quote     the bytes after the first quotation mark
--   meant_name      the tag's name: the bytes of names, and those beyond ASCII, before the first quotation mark; if there is no such mark, the bytes of names
--                   before the first blank
--   rough_value     the bytes after that mark, or after that name
--   meant_value     the value: these bytes, trimmed of one right bracket at the end, of blanks and quotation marks at the end, and of blanks at the beginning
--   with_escapes    a value with a backslash before each quotation mark and backslash that isn't escaped and doesn't escape (PGN 7)
--   as_tag          a tag as the standard has it (PGN 8.1.1)
--   IsTagMeant      a text on one line that begins with a left bracket means this tag: it has the name and the value of the text
use Rattle.std.specs.Prelude.{◌≡◌, ℕ, Bool, true, false, ◌||◌, ◌&&◌, ◌==◌, nat_le, if◌then◌else◌, List, [], ◌∷◌, ◌++◌, reverse, Option, Some, None, codes}
use Rattle.std.specs.Str.{byte}
use Rattle.std.specs.List.{list_all}
use Rattle.chess_items.specs.Items.{in_line, is_blank, is_escapable, is_name_byte}
use Rattle.chess_repair.specs.Runs.{has_first, past, past_end}

-- a quotation mark
unfoldable pub is_quote : ℕ → Bool
is_quote b = b == byte "\""

-- a right bracket
unfoldable pub closes_tag : ℕ → Bool
closes_tag b = b == byte "]"

-- a byte of names, or one beyond ASCII: what no repair of a tag may lose
unfoldable pub is_kept : ℕ → Bool
is_kept b = is_name_byte b || nat_le 128 b

-- a byte that is trimmed from the end of a value
unfoldable pub is_trimmed : ℕ → Bool
is_trimmed b = is_blank b || is_quote b

-- ---- where a tag begins

-- a name comes here, and then a quotation mark
abbrev pub has_name : List ℕ → Bool
has_name text = has_first is_name_byte text && has_first is_quote (past is_blank (past is_name_byte text))

abbrev pub begins_tag : List ℕ → Bool
begins_tag [] = false
begins_tag (b ∷ bs) = b == byte "[" && has_name (past is_blank bs)

-- a tag may begin here
abbrev pub opens_tag : List ℕ → Bool
opens_tag [] = false
opens_tag (b ∷ bs) = b == byte "[" && has_first is_name_byte (past is_blank bs)

-- ---- the parts of a tag

abbrev pub after_quote : List ℕ → Option (List ℕ)
after_quote [] = None
after_quote (b ∷ bs) = if is_quote b then Some bs else after_quote bs

-- the bytes that a name keeps, up to the first quotation mark
abbrev pub name_before_quote : List ℕ → List ℕ
name_before_quote [] = []
name_before_quote (b ∷ bs) = if is_quote b then [] else (if is_kept b then b ∷ name_before_quote bs else name_before_quote bs)

-- the bytes of names at the beginning
abbrev pub first_name : List ℕ → List ℕ
first_name [] = []
first_name (b ∷ bs) = if is_name_byte b then b ∷ first_name bs else []

-- the text without the bracket at its beginning, and without blanks after it
abbrev pub after_bracket : List ℕ → List ℕ
after_bracket [] = []
after_bracket (b ∷ bs) = past is_blank bs

-- the name of a tag with a quotation mark, or without one
abbrev pub name_with : Option (List ℕ) → List ℕ → List ℕ
name_with (Some value) tag = name_before_quote tag
name_with None tag = first_name (after_bracket tag)

-- the rough value of a tag with a quotation mark, or without one
abbrev pub rough_with : Option (List ℕ) → List ℕ → List ℕ
rough_with (Some value) tag = value
rough_with None tag = past is_name_byte (after_bracket tag)

abbrev pub meant_name : List ℕ → List ℕ
meant_name tag = name_with (after_quote tag) tag

abbrev pub rough_value : List ℕ → List ℕ
rough_value tag = rough_with (after_quote tag) tag

-- without one right bracket at the beginning
abbrev pub but_bracket : List ℕ → List ℕ
but_bracket [] = []
but_bracket (b ∷ bs) = if closes_tag b then bs else b ∷ bs

-- without one right bracket at the end
abbrev pub unclosed : List ℕ → List ℕ
unclosed text = reverse (but_bracket (reverse text))

abbrev pub meant_value : List ℕ → List ℕ
meant_value tag = past is_blank (past_end is_trimmed (unclosed (rough_value tag)))

-- ---- a tag as it is written

-- a backslash escapes what comes next
abbrev pub escapes : ℕ → List ℕ → Bool
escapes b bs = b == byte "\\" && has_first is_escapable bs

-- (the flag: the byte before escapes this one)
abbrev pub with_escapes : Bool → List ℕ → List ℕ
with_escapes is_escaped [] = []
with_escapes true (b ∷ bs) = b ∷ with_escapes false bs
with_escapes false (b ∷ bs) = if escapes b bs then b ∷ with_escapes true bs else (if is_escapable b then byte "\\" ∷ b ∷ with_escapes false bs else b ∷ with_escapes false bs)

abbrev pub as_tag : List ℕ → List ℕ → List ℕ
as_tag name value = codes "[" ++ (name ++ (codes " \"" ++ (with_escapes false value ++ codes "\"]")))

-- on one line, from its left bracket on
abbrev pub is_rough_tag : List ℕ → Bool
is_rough_tag [] = false
is_rough_tag (b ∷ bs) = b == byte "[" && list_all in_line bs

abbrev pub IsTagMeant : List ℕ → List ℕ → Type 0
IsTagMeant was now = (is_rough_tag was ≡ true) × (now ≡ as_tag (meant_name was) (meant_value was))
