-- What the words after `go` ask for.
--   field_named    the field that the word names and gives the next word to
--   number         the number that a word writes
--   fields         the fields that the words set
--   is_searchmove  the words after the last `searchmoves` name the move
--   budget         the milliseconds that the search may take, if it is timed
--   last_depth     how deep it goes
use Rattle.std.specs.Prelude.{ℕ, ◌+◌, ◌-◌, ◌*◌, ◌/◌, ◌==◌, min, max, Bool, true, false, ◌||◌, if◌then◌else◌, List, [], ◌∷◌, fold, Option, Some, None, option_map, unwrap_or, is_some, codes}
use Rattle.std.specs.Char.{is_ascii_digit}
use Rattle.std.specs.List.{list_all}
use Rattle.std.specs.Str.{bytes_eq}
use Rattle.chess_uci.specs.Tables.{beside}
use Rattle.chess_types.specs.declared.board.man.Colour.{Colour}
use Rattle.chess_types.specs.declared.board.man.Colour.TheVariants.{White, Black}
use Rattle.chess_uci.specs.declared.fields.Name.{Name}
use Rattle.chess_uci.specs.declared.fields.Name.TheVariants.{Depth, MoveTime, WhiteTime, BlackTime, WhiteIncrement, BlackIncrement, Ignored}
use Rattle.chess_uci.specs.declared.fields.Fields.{Fields}

-- the name of a field of `go` that takes a number; with the last three nothing is done
abbrev pub field_named : List ℕ → Option Name
field_named word =
    beside (
    (codes "depth", Depth)
    ∷ (codes "movetime", MoveTime)
    ∷ (codes "wtime", WhiteTime)
    ∷ (codes "btime", BlackTime)
    ∷ (codes "winc", WhiteIncrement)
    ∷ (codes "binc", BlackIncrement)
    ∷ (codes "movestogo", Ignored)
    ∷ (codes "nodes", Ignored)
    ∷ (codes "mate", Ignored)
    ∷ []) word

-- the word `infinite`
abbrev pub is_infinite : List ℕ → Bool
is_infinite word = bytes_eq word (codes "infinite")

-- the word `searchmoves`
abbrev pub is_searchmoves : List ℕ → Bool
is_searchmoves word = bytes_eq word (codes "searchmoves")

-- any word that has a meaning after `go`
abbrev pub is_name : List ℕ → Bool
is_name word = is_some (field_named word) || is_infinite word || bytes_eq word (codes "ponder") || is_searchmoves word

-- the number with one decimal digit more
abbrev pub with_digit : ℕ → ℕ → ℕ
with_digit n digit = n * 10 + (digit - 48)

-- decimal digits, at least one; more than 1,000,000,000 is read as that
abbrev pub digits : List ℕ → Option ℕ
digits [] = None
digits (b ∷ bs) = if list_all is_ascii_digit (b ∷ bs) then Some (min (fold with_digit 0 (b ∷ bs)) 1000000000) else None

-- digits; or a hyphen and digits, a number below 0, which is read as 0
abbrev pub number : List ℕ → Option ℕ
number [] = None
number (b ∷ bs) = if b == 45 then option_map (λ _. 0) (digits bs) else digits (b ∷ bs)

-- a `go` without fields
abbrev pub no_fields : Fields
no_fields = record { depth = None; movetime = None; white_time = None; black_time = None; white_increment = None; black_increment = None; infinite = false }

-- the last of a repeated name counts
abbrev pub with_number : Fields → Name → ℕ → Fields
with_number f Depth n = record f { depth = Some n }
with_number f MoveTime n = record f { movetime = Some n }
with_number f WhiteTime n = record f { white_time = Some n }
with_number f BlackTime n = record f { black_time = Some n }
with_number f WhiteIncrement n = record f { white_increment = Some n }
with_number f BlackIncrement n = record f { black_increment = Some n }
with_number f Ignored n = f

-- the fields with a word that is no name of a number
abbrev pub fields_with_word : Fields → List ℕ → Fields
fields_with_word f word = if is_infinite word then record f { infinite = true } else f

-- what has been read: the fields, and the name right before the next word, if it is one that takes a number
pub record Reading : Type 0 where
  pub fields : Fields
  pub wanted : Option Name

-- the number that the word gives to the name before it
abbrev pub given_number : Option Name → List ℕ → Option (Name × ℕ)
given_number None word = None
given_number (Some name) word = option_map (λ n. (name, n)) (number word)

-- a name takes the next word where that is a number; else the name alone is skipped
abbrev pub read_as : Fields → List ℕ → Option (Name × ℕ) → Reading
read_as f word (Some gift) = record { fields = with_number f gift.0 gift.1; wanted = None }
read_as f word None = record { fields = fields_with_word f word; wanted = field_named word }

-- what has been read, with the next word
abbrev pub read_word : Reading → List ℕ → Reading
read_word r word = read_as r.fields word (given_number r.wanted word)

-- from left to right
abbrev pub fields : List (List ℕ) → Fields
fields words = (fold read_word (record { fields = no_fields; wanted = None }) words).fields

-- the words after the last `searchmoves`
abbrev pub after_searchmoves : List (List ℕ) → List (List ℕ) → List (List ℕ)
after_searchmoves found [] = found
after_searchmoves found (word ∷ words) = if is_searchmoves word then after_searchmoves words words else after_searchmoves found words

-- the text is among the words before the first that has a meaning of its own
abbrev pub is_listed : List ℕ → List (List ℕ) → Bool
is_listed text [] = false
is_listed text (word ∷ words) = if is_name word then false else bytes_eq word text || is_listed text words

-- the text is one of the words after `searchmoves`
abbrev pub is_searchmove : List (List ℕ) → List ℕ → Bool
is_searchmove words text = is_listed text (after_searchmoves [] words)

-- the time and the increment of the side to move
abbrev pub time_of : Fields → Colour → Option ℕ
time_of f White = f.white_time
time_of f Black = f.black_time

-- the increment of a side, 0 where none is given
abbrev pub increment_of : Fields → Colour → ℕ
increment_of f White = unwrap_or f.white_increment 0
increment_of f Black = unwrap_or f.black_increment 0

-- a twentieth of the time and half the increment, but at most 50 less than the time, and that at least 1
abbrev pub share : ℕ → ℕ → ℕ
share time increment = min (time / 20 + increment / 2) (max (time - 50) 1)

-- a time that is given, else a share of the clock
abbrev pub or_share : Option ℕ → Option ℕ → ℕ → Option ℕ
or_share (Some n) time increment = Some n
or_share None time increment = option_map (λ t. share t increment) time

-- `movetime`, else a share of the mover's time
abbrev pub budget : Fields → Colour → Option ℕ
budget f side = if f.infinite then None else or_share f.movetime (time_of f side) (increment_of f side)

-- the depth that is given, from 1 to 16; else 16 where the search ends by time or a stop, and 4 where by neither
abbrev pub depth_or : Option ℕ → Bool → ℕ
depth_or (Some depth) long = min (max depth 1) 16
depth_or None long = if long then 16 else 4

-- `depth`, brought into 1 to 16; else 16 plies where the search is infinite or timed, and 4 where it isn't
abbrev pub last_depth : Fields → Colour → ℕ
last_depth f side = depth_or f.depth (f.infinite || is_some (budget f side))
