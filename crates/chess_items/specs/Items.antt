-- What a text in portable game notation is made of (PGN 7).
--   Item         a token, or what comes between tokens
--   may_stand    the items that may be at a place: outside of tags, between the parts of a tag, or in its value
--   place_after  the place after an item
--   place_behind the place after some items
--   is_white     the items that make no game
--   IsItem       the item that a text spells, at a place and before what follows
--   Spells       the items that the beginning of a text spells, one after another, and the rest
-- A word, a line, a stretch of a value and the like are longest runs: that no item is cut short is said of the bytes that follow it.
use Rattle.std.specs.Prelude.{◌≡◌, ◌≢◌, ◌⊎◌, ◌<◌, ℕ, ◌+◌, ◌*◌, ◌-◌, ◌==◌, nat_le, ◌&&◌, ◌||◌, not, if◌then◌else◌, Bool, true, false, List, [], ◌∷◌, ◌++◌, map, Option, Some, None, codes, bytes_eq, ⊤}
use Rattle.std.specs.List.{AllByRecursion, list_all}
use Rattle.std.specs.Str.{byte}
use Rattle.chess_items.specs.declared.outcome.Outcome.{Outcome}
use Rattle.chess_items.specs.declared.outcome.Outcome.TheVariants.{WhiteWins, BlackWins, Draw, Unfinished}
use Rattle.chess_items.specs.Markers.{outcome_text}
use Rattle.chess_items.specs.declared.place.Place.{Place}
use Rattle.chess_items.specs.declared.place.Place.TheVariants.{GameStart, LineStart, InLine, TagLineStart, InTag, InValue}

pub data Item : Type 0 where
  -- the bytes EF BB BF, by which some programs mark a text as UTF-8
  Mark : Item
  -- a byte of whitespace
  Blank : ℕ → Item
  -- a % in the first column, and the line that it hides (PGN 6)
  Hidden : Item
  -- a comment's text, after a ; or between braces (PGN 5)
  Comment : List ℕ → Item
  -- a move number, or a period (PGN 8.2.2)
  Skipped : Item
  -- a move's text
  Word : List ℕ → Item
  -- an annotation number (PGN 10), or what !, ?, !!, ??, !? and ?! stand for
  Nag : ℕ → Item
  -- the parentheses of a variation (PGN 8.2.5)
  Open : Item
  Close : Item
  -- how the game ended (PGN 8.2.6)
  Marker : Outcome → Item
  -- the brackets of a tag, its name, and its quotation marks (PGN 8.1)
  TagOpen : Item
  TagClose : Item
  Name : List ℕ → Item
  Quote : Item
  -- a stretch of its value as it stands, and a quotation mark or a backslash after a backslash
  Stretch : List ℕ → Item
  Escaped : ℕ → Item

-- ---- bytes

-- a byte from one to another, both included
abbrev pub between : ℕ → ℕ → ℕ → Bool
between low high b = nat_le low b && nat_le b high

-- from the horizontal tab to the carriage return, and the space
unfoldable pub is_blank : ℕ → Bool
is_blank b = between 9 13 b || b == 32

-- 0 to 9
unfoldable pub is_digit : ℕ → Bool
is_digit b = between (byte "0") (byte "9") b

-- A to Z and a to z
abbrev pub is_letter : ℕ → Bool
is_letter b = between (byte "A") (byte "Z") b || between (byte "a") (byte "z") b

-- of a tag's name
unfoldable pub is_name_byte : ℕ → Bool
is_name_byte b = is_digit b || is_letter b || b == byte "_"

-- of moves, numbers and markers
unfoldable pub is_word_byte : ℕ → Bool
is_word_byte b =
    is_name_byte b || b == byte "+" || b == byte "#" || b == byte "=" || b == byte ":" || b == byte "-" || b == byte "/"

-- of what a move is thought to be
unfoldable pub is_glyph : ℕ → Bool
is_glyph b = b == byte "!" || b == byte "?"

-- of a line: all but its end, the line feed
abbrev pub in_line : ℕ → Bool
in_line b = not (b == 10)

-- of a comment between braces: all but the right brace
abbrev pub in_braces : ℕ → Bool
in_braces b = not (b == byte "}")

-- of a value as it stands
unfoldable pub is_plain : ℕ → Bool
is_plain b = not (b == byte "\"" || b == byte "\\" || b == 10)

-- ---- texts

-- the number that digits spell, after digits that spell the first number
abbrev pub digits_value : ℕ → List ℕ → ℕ
digits_value n [] = n
digits_value n (d ∷ ds) = digits_value (10 * n + (d - byte "0")) ds

-- the annotation number that a run of ! and ? stands for (PGN 10)
unfoldable pub glyph_value : List ℕ → Option ℕ
glyph_value text =
    if bytes_eq text (codes "!") then Some 1
    else (if bytes_eq text (codes "?") then Some 2 else (if bytes_eq text (codes "!!") then Some 3 else (if bytes_eq text (codes "??") then Some 4 else (if bytes_eq text (codes "!?") then Some 5 else (if bytes_eq text (codes "?!") then Some 6 else None)))))

-- digits alone are a move number, three words are markers, and every other word is a move's text
unfoldable pub word_item : List ℕ → Item
word_item text =
    if list_all is_digit text then Skipped
    else (if bytes_eq text (outcome_text WhiteWins) then Marker WhiteWins else (if bytes_eq text (outcome_text BlackWins) then Marker BlackWins else (if bytes_eq text (outcome_text Draw) then Marker Draw else Word text)))

-- a byte of a comment after a ;, as it is written between braces
abbrev pub without_brace : ℕ → ℕ
without_brace b = if b == byte "}" then byte ")" else b

-- ---- places

-- the first column (PGN 6)
abbrev pub starts_line : Place → Bool
starts_line GameStart = true
starts_line LineStart = true
starts_line TagLineStart = true
starts_line _ = false

-- outside of tags
abbrev pub is_outside : Place → Bool
is_outside GameStart = true
is_outside LineStart = true
is_outside InLine = true
is_outside _ = false

-- between the parts of a tag
abbrev pub is_in_tag : Place → Bool
is_in_tag TagLineStart = true
is_in_tag InTag = true
is_in_tag _ = false

-- in a tag's value
abbrev pub is_in_value : Place → Bool
is_in_value InValue = true
is_in_value _ = false

abbrev pub may_stand : Place → Item → Bool
may_stand place Mark = is_outside place
may_stand place (Blank b) = is_outside place || is_in_tag place
may_stand place Hidden = starts_line place
may_stand place (Comment text) = is_outside place
may_stand place Skipped = is_outside place
may_stand place (Word text) = is_outside place
may_stand place (Nag n) = is_outside place
may_stand place Open = is_outside place
may_stand place Close = is_outside place
may_stand place (Marker outcome) = is_outside place
may_stand place TagOpen = is_outside place
may_stand place TagClose = is_in_tag place
may_stand place (Name text) = is_in_tag place
may_stand place Quote = is_in_tag place || is_in_value place
may_stand place (Stretch text) = is_in_value place
may_stand place (Escaped b) = is_in_value place

-- after a byte of whitespace, outside of tags and between the parts of one
abbrev pub place_after_blank : Bool → Bool → Place
place_after_blank false true = LineStart
place_after_blank false false = InLine
place_after_blank true true = TagLineStart
place_after_blank true false = InTag

abbrev pub place_after : Place → Item → Place
place_after place Mark = LineStart
place_after place (Blank b) = place_after_blank (is_in_tag place) (b == 10)
place_after place Hidden = place_after_blank (is_in_tag place) false
place_after place TagOpen = InTag
place_after place (Name text) = InTag
place_after place Quote = if is_in_value place then InTag else InValue
place_after place (Stretch text) = InValue
place_after place (Escaped b) = InValue
place_after place _ = InLine

-- whitespace, a mark and a hidden line, which make no game
abbrev pub is_white : Item → Bool
is_white Mark = true
is_white (Blank b) = true
is_white Hidden = true
is_white _ = false

-- ---- what spells an item

-- each byte passes
abbrev pub Each : (ℕ → Bool) → List ℕ → Type 0
Each p = AllByRecursion (λ b. p b ≡ true)

-- no byte that passes comes next
abbrev pub EndsRun : (ℕ → Bool) → List ℕ → Type 0
EndsRun p [] = ⊤
EndsRun p (b ∷ bs) = p b ≡ false

-- a longest run
pub record IsRun (p : ℕ → Bool) (text next : List ℕ) : Type 0 where
  pub some : text ≢ []
  pub each : Each p text
  pub stops : EndsRun p next

-- a line, up to its end
pub record IsToLineEnd (line next : List ℕ) : Type 0 where
  pub each : Each in_line line
  pub stops : EndsRun in_line next

-- what may follow a backslash in a value
abbrev pub is_escapable : ℕ → Bool
is_escapable b = b == byte "\"" || b == byte "\\"

-- the text spells the item before what comes next
abbrev pub IsSpelled : Item → List ℕ → List ℕ → Type 0
IsSpelled Mark text next = text ≡ 239 ∷ 187 ∷ 191 ∷ []
IsSpelled (Blank b) text next = (is_blank b ≡ true) × (text ≡ b ∷ [])
IsSpelled Hidden text next = (line : List ℕ) × (text ≡ byte "%" ∷ line) × IsToLineEnd line next
IsSpelled (Comment t) text next =
    ((text ≡ byte "{" ∷ t ++ byte "}" ∷ []) × Each in_braces t)
    ⊎ ((line : List ℕ) × (text ≡ byte ";" ∷ line) × IsToLineEnd line next × (t ≡ map without_brace line))
IsSpelled Skipped text next = (text ≡ codes ".") ⊎ (IsRun is_word_byte text next × (word_item text ≡ Skipped))
IsSpelled (Word w) text next = IsRun is_word_byte text next × (word_item text ≡ Word w)
IsSpelled (Nag n) text next =
    ((digits : List ℕ) × (text ≡ byte "$" ∷ digits) × IsRun is_digit digits next × (n ≡ digits_value 0 digits) × (n < 256))
    ⊎ (IsRun is_glyph text next × (glyph_value text ≡ Some n))
IsSpelled Open text next = text ≡ codes "("
IsSpelled Close text next = text ≡ codes ")"
IsSpelled (Marker outcome) text next = ((text ≡ codes "*") × (outcome ≡ Unfinished)) ⊎ (IsRun is_word_byte text next × (word_item text ≡ Marker outcome))
IsSpelled TagOpen text next = text ≡ codes "["
IsSpelled TagClose text next = text ≡ codes "]"
IsSpelled (Name name) text next = IsRun is_name_byte text next × (name ≡ text)
IsSpelled Quote text next = text ≡ codes "\""
IsSpelled (Stretch t) text next = (t ≡ text) × (IsRun is_plain text next ⊎ ((text ≡ codes "\\") × EndsRun is_escapable next))
IsSpelled (Escaped b) text next = (is_escapable b ≡ true) × (text ≡ byte "\\" ∷ b ∷ [])

pub record IsItem (place : Place) (item : Item) (text next : List ℕ) : Type 0 where
  pub stands : may_stand place item ≡ true
  pub spelled : IsSpelled item text next

-- the input is these items one after another, and then the rest
abbrev pub Spells : Place → List ℕ → List Item → List ℕ → Type 0
Spells place input [] rest = input ≡ rest
Spells place input (item ∷ items) rest =
    (text next : List ℕ) × (input ≡ text ++ next) × IsItem place item text next × Spells (place_after place item) next items rest

-- the place after items
abbrev pub place_behind : Place → List Item → Place
place_behind place [] = place
place_behind place (item ∷ items) = place_behind (place_after place item) items
