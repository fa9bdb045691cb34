-- The first item of a text, and what follows it, as the code finds them: by the first byte, and by longest runs.
use Rattle.std.specs.Prelude.{ℕ, ◌==◌, nat_lt, if◌then◌else◌, Bool, true, false, List, [], ◌∷◌, take, drop, map, Option, Some, None}
use Rattle.std.specs.List.{prefix_len}
use Rattle.std.specs.Str.{byte}
use Rattle.chess_items.specs.Items.{Item, Mark, Blank, Hidden, Comment, Skipped, Nag, Open, Close, Marker, TagOpen, TagClose, Name, Quote, Stretch, Escaped}
use Rattle.chess_items.specs.Items.{digits_value, glyph_value, in_braces, in_line, is_blank, is_digit, is_escapable, is_glyph, is_name_byte, is_plain, is_word_byte, without_brace, word_item}
use Rattle.chess_items.specs.declared.outcome.Outcome.TheVariants.{Unfinished}
use Rattle.chess_items.specs.declared.place.Place.{Place}
use Rattle.chess_items.specs.declared.place.Place.TheVariants.{GameStart, LineStart, InLine, TagLineStart, InTag, InValue}

-- an item and what follows it, or none
abbrev pub Found : Type 0
Found = Option (Item × List ℕ)

-- what f makes of the longest run, and of what follows it
unfoldable pub run_at : (ℕ → Bool) → (List ℕ → List ℕ → Found) → List ℕ → Found
run_at p f bytes = let n = prefix_len p bytes in f (take n bytes) (drop n bytes)

-- what a run of word bytes is
abbrev pub word_found : List ℕ → List ℕ → Found
word_found text rest = Some (word_item text, rest)

-- an annotation number, where it is one
abbrev pub nag_found : Option ℕ → List ℕ → Found
nag_found (Some n) rest = Some (Nag n, rest)
nag_found None rest = None

-- a number below 256
abbrev pub small : ℕ → Option ℕ
small n = if nat_lt n 256 then Some n else None

-- what a run of digits after a $ is
abbrev pub digits_found : List ℕ → List ℕ → Found
digits_found [] rest = None
digits_found (d ∷ ds) rest = nag_found (small (digits_value 0 (d ∷ ds))) rest

-- what a run of ! and ? is
abbrev pub glyph_found : List ℕ → List ℕ → Found
glyph_found text rest = nag_found (glyph_value text) rest

-- what a line after a % is
abbrev pub hidden_found : List ℕ → List ℕ → Found
hidden_found line rest = Some (Hidden, rest)

-- what a line after a ; is
abbrev pub line_found : List ℕ → List ℕ → Found
line_found line rest = Some (Comment (map without_brace line), rest)

-- what is before a right brace, after a left one; nothing where there is no right brace
abbrev pub braces_found : List ℕ → List ℕ → Found
braces_found text [] = None
braces_found text (b ∷ rest) = Some (Comment text, rest)

-- what a run of name bytes is in a tag
abbrev pub name_found : List ℕ → List ℕ → Found
name_found text rest = Some (Name text, rest)

-- what a run of plain bytes is in a value
abbrev pub stretch_found : List ℕ → List ℕ → Found
stretch_found text rest = Some (Stretch text, rest)

-- after a %, which hides a line in the first column only
abbrev pub hidden_at : Bool → List ℕ → Found
hidden_at start bytes = if start then run_at in_line hidden_found bytes else None

-- after the first byte of a mark
abbrev pub mark_at : List ℕ → Found
mark_at [] = None
mark_at (b ∷ []) = None
mark_at (b ∷ c ∷ bytes) = if b == 187 then (if c == 191 then Some (Mark, bytes) else None) else None

-- what begins with another byte than those of words, whitespace, ! and ?
unfoldable pub sign_at : Bool → ℕ → List ℕ → Found
sign_at start b bytes =
    if b == byte "%" then hidden_at start bytes
    else (if b == byte ";" then run_at in_line line_found bytes
    else (if b == byte "{" then run_at in_braces braces_found bytes
    else (if b == byte "$" then run_at is_digit digits_found bytes
    else (if b == byte "(" then Some (Open, bytes)
    else (if b == byte ")" then Some (Close, bytes)
    else (if b == byte "*" then Some (Marker Unfinished, bytes)
    else (if b == byte "." then Some (Skipped, bytes)
    else (if b == byte "[" then Some (TagOpen, bytes)
    else (if b == 239 then mark_at bytes else None)))))))))

-- outside of tags, in the first column or not
unfoldable pub outside_at : Bool → List ℕ → Found
outside_at start [] = None
outside_at start (b ∷ bytes) =
    if is_word_byte b then run_at is_word_byte word_found (b ∷ bytes)
    else (if is_blank b then Some (Blank b, bytes)
    else (if is_glyph b then run_at is_glyph glyph_found (b ∷ bytes) else sign_at start b bytes))

-- between the parts of a tag, in the first column or not
unfoldable pub tag_at : Bool → List ℕ → Found
tag_at start [] = None
tag_at start (b ∷ bytes) =
    if is_name_byte b then run_at is_name_byte name_found (b ∷ bytes)
    else (if is_blank b then Some (Blank b, bytes)
    else (if b == byte "\"" then Some (Quote, bytes)
    else (if b == byte "]" then Some (TagClose, bytes)
    else (if b == byte "%" then hidden_at start bytes else None))))

-- after a backslash
abbrev pub escaped_at : List ℕ → Found
escaped_at [] = Some (Stretch (byte "\\" ∷ []), [])
escaped_at (b ∷ bytes) = if is_escapable b then Some (Escaped b, bytes) else Some (Stretch (byte "\\" ∷ []), b ∷ bytes)

-- in a tag's value
unfoldable pub value_at : List ℕ → Found
value_at [] = None
value_at (b ∷ bytes) =
    if b == byte "\"" then Some (Quote, bytes)
    else (if b == byte "\\" then escaped_at bytes
    else (if b == 10 then None else run_at is_plain stretch_found (b ∷ bytes)))

-- the first item at a place
unfoldable pub item_at : Place → List ℕ → Found
item_at GameStart bytes = outside_at true bytes
item_at LineStart bytes = outside_at true bytes
item_at InLine bytes = outside_at false bytes
item_at TagLineStart bytes = tag_at true bytes
item_at InTag bytes = tag_at false bytes
item_at InValue bytes = value_at bytes
