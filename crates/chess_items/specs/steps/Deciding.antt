-- When bytes at hand decide the item that they begin with.
--   longer    what is found, with more bytes after it
--   Decides   whatever follows, the first item is the same
--   is_open   the first item reaches the end of the bytes and may go on
use Rattle.std.specs.Prelude.{◌≡◌, ℕ, ◌==◌, nat_lt, ◌&&◌, if◌then◌else◌, Bool, true, false, List, [], ◌∷◌, ◌++◌, length, Some, None}
use Rattle.std.specs.List.{list_all}
use Rattle.std.specs.Str.{byte}
use Rattle.chess_items.specs.Items.{digits_value, in_braces, in_line, is_blank, is_digit, is_glyph, is_name_byte, is_plain, is_word_byte}
use Rattle.chess_items.specs.steps.ItemAt.{Found, item_at}
use Rattle.chess_items.specs.declared.place.Place.{Place}
use Rattle.chess_items.specs.declared.place.Place.TheVariants.{GameStart, LineStart, InLine, TagLineStart, InTag, InValue}

abbrev pub longer : Found → List ℕ → Found
longer None more = None
longer (Some x) more = Some (x.0, x.1 ++ more)

-- that there is no item is the same too
abbrev pub Decides : Place → List ℕ → Type 0
Decides place prefix = (more : List ℕ) → item_at place (prefix ++ more) ≡ longer (item_at place prefix) more

-- after the first byte of a mark
abbrev pub mark_open : List ℕ → Bool
mark_open [] = true
mark_open (b ∷ []) = b == 187
mark_open (b ∷ c ∷ bytes) = false

-- after one of the other bytes; a number above 255 is one too many
unfoldable pub sign_open : Bool → ℕ → List ℕ → Bool
sign_open start b bytes =
    if b == byte "%" then start && list_all in_line bytes
    else (if b == byte ";" then list_all in_line bytes
    else (if b == byte "{" then list_all in_braces bytes
    else (if b == byte "$" then list_all is_digit bytes && nat_lt (digits_value 0 bytes) 256
    else (if b == 239 then mark_open bytes else false))))

-- so is a third glyph
unfoldable pub outside_open : Bool → List ℕ → Bool
outside_open start [] = true
outside_open start (b ∷ bytes) =
    if is_word_byte b then list_all is_word_byte bytes
    else (if is_blank b then false
    else (if is_glyph b then list_all is_glyph bytes && nat_lt (length bytes) 2 else sign_open start b bytes))

-- the first item reaches the end of the bytes and may go on, between the parts of a tag
unfoldable pub tag_open : Bool → List ℕ → Bool
tag_open start [] = true
tag_open start (b ∷ bytes) =
    if is_name_byte b then list_all is_name_byte bytes
    else (if is_blank b then false
    else (if b == byte "\"" then false
    else (if b == byte "]" then false
    else (if b == byte "%" then start && list_all in_line bytes else false))))

-- the same after a backslash in a value
abbrev pub escape_open : List ℕ → Bool
escape_open [] = true
escape_open (b ∷ bytes) = false

-- the same in a tag's value
unfoldable pub value_open : List ℕ → Bool
value_open [] = true
value_open (b ∷ bytes) =
    if b == byte "\"" then false
    else (if b == byte "\\" then escape_open bytes
    else (if b == 10 then false else list_all is_plain bytes))

unfoldable pub is_open : Place → List ℕ → Bool
is_open GameStart bytes = outside_open true bytes
is_open LineStart bytes = outside_open true bytes
is_open InLine bytes = outside_open false bytes
is_open TagLineStart bytes = tag_open true bytes
is_open InTag bytes = tag_open false bytes
is_open InValue bytes = value_open bytes
