-- Tags read item by item.
--   Heading    the tags that were read, and what was read of the one that has begun
--   step       an item more; none where no tag goes on so
--   heads_on   the tags in all, where these items follow
--   heading    what a reader of tags stands for
--   Heads      it takes an item; Refuses, it takes it for malformed; Closes, a tag ends
--   HasTaken   it has taken these items
--   HasFound   the tags that it has read are a game's
use Rattle.std.specs.Prelude.{◌≡◌, ℕ, ◌&&◌, if◌then◌else◌, Bool, true, false, List, [], ◌∷◌, ◌++◌, Option, Some, None, is_none, Result, Ok, Err, codes, bytes_eq}
use Rattle.chess_types.specs.board.Position.{PositionParts}
use Rattle.chess_items.specs.Items as items
use Rattle.chess_items.specs.Items.{Item}
use Rattle.chess_items.specs.declared.fault.FaultKind.TheVariants.{Fen, Tag}
use Rattle.chess_items.specs.declared.fault.PgnFault.{PgnFault}
use Rattle.chess_fen.specs.Reading.{fen_reading}
use Rattle.chess_fen.specs.declared.fault.FenFault.{FenFault}
use Rattle.chess_pgn.specs.Games.{tag_in}
use Rattle.chess_pgn.specs.Grammar.{◌>>=◌}
use Rattle.chess_pgn.specs.Tags.{HasTags, may_part_tags, is_tag_gap}
use Rattle.chess_pgn.specs.steps.GameCode.{tags_of}
use Rattle.chess_pgn.specs.steps.OtherCode.{Finds}
use Rattle.chess_pgn.specs.declared.reader.header.Header.{Header}
use Rattle.chess_pgn.specs.declared.reader.header.Part.{Part}
use Rattle.chess_pgn.specs.declared.reader.header.Part.TheVariants.{Closing, Name, Nothing, Opening, Value}
use Rattle.chess_pgn.specs.declared.tags.Tags.{Tags}

pub record Heading : Type 0 where
  pub read : List (List ℕ × List ℕ)
  pub part : Part
  pub name : List ℕ
  pub value : List ℕ

-- outside of tags
abbrev pub fresh : List (List ℕ × List ℕ) → Heading
fresh read = record { read = read; part = Nothing; name = []; value = [] }

-- at another part of a tag
abbrev pub in_part : Part → Heading → Heading
in_part part h = record { read = h.read; part = part; name = h.name; value = h.value }

-- text more of the value
abbrev pub longer : List ℕ → Heading → Heading
longer text h = record { read = h.read; part = Value; name = h.name; value = h.value ++ text }

-- after a tag's name
abbrev pub named : List ℕ → Heading → Heading
named name h = record { read = h.read; part = Opening; name = h.name ++ name; value = h.value }

-- after a tag's right bracket: it is read
abbrev pub closed : Heading → Heading
closed h = fresh (h.read ++ (h.name, h.value) ∷ [])

-- after the left bracket comes the name
abbrev pub name_step : Heading → Item → Option Heading
name_step h (items.Name name) = Some (named name h)
name_step h _ = None

-- then a quotation mark
abbrev pub opening_step : Heading → Item → Option Heading
opening_step h items.Quote = Some (in_part Value h)
opening_step h _ = None

-- then the value, up to a quotation mark
abbrev pub value_step : Heading → Item → Option Heading
value_step h (items.Stretch text) = Some (longer text h)
value_step h (items.Escaped b) = Some (longer (b ∷ []) h)
value_step h items.Quote = Some (in_part Closing h)
value_step h _ = None

-- then the right bracket
abbrev pub closing_step : Heading → Item → Option Heading
closing_step h items.TagClose = Some (closed h)
closing_step h _ = None

-- a left bracket begins a tag
abbrev pub opened : Heading → Item → Option Heading
opened h items.TagOpen = Some (in_part Name h)
opened h _ = None

-- between tags
abbrev pub outside_step : Heading → Item → Option Heading
outside_step h item = if may_part_tags item then Some h else opened h item

-- the heading after an item, by the part at which it is; none where the item may not be there
abbrev pub step_in : Part → Heading → Item → Option Heading
step_in Name h item = name_step h item
step_in Opening h item = opening_step h item
step_in Value h item = value_step h item
step_in Closing h item = closing_step h item
step_in Nothing h item = outside_step h item

-- whether whitespace may come next, outside of tags apart
abbrev pub is_spaced : Part → Bool
is_spaced Value = false
is_spaced Nothing = false
is_spaced _ = true

abbrev pub step : Heading → Item → Option Heading
step h item = if is_spaced h.part && is_tag_gap item then Some h else step_in h.part h item

-- whether a tag has begun and not ended
abbrev pub is_begun : Part → Bool
is_begun Nothing = false
is_begun _ = true

abbrev pub heads_on : Heading → List Item → Option (List (List ℕ × List ℕ))
heads_on h [] = if is_begun h.part then None else Some h.read
heads_on h (item ∷ is) = step h item >>= λ next. heads_on next is

-- ---- the code's reader of tags

abbrev pub heading : {A : Type 0} → List (List ℕ × List ℕ) → Header A → Heading
heading read header = record { read = read; part = header.part; name = header.name.items; value = header.value.items }

-- whatever was read
abbrev pub Heads : {A : Type 0} → Item → Header A → Header A → Type 0
Heads item old new =
    (read : List (List ℕ × List ℕ)) → Finds read old.found.tags
    → (all : List (List ℕ × List ℕ)) × (step (heading read old) item ≡ Some (heading all new)) × Finds all new.found.tags

-- these items are all that it has taken, and what comes between tags
abbrev pub HasTaken : {A : Type 0} → List Item → Header A → Type 0
HasTaken taken header =
    (read : List (List ℕ × List ℕ)) × Finds read header.found.tags × ((is : List Item) → heads_on (fresh []) (taken ++ is) ≡ heads_on (heading read header) is)

-- whatever was read
abbrev pub HasFound : {A : Type 0} → Header A → Tags A → Type 0
HasFound header tags = (read : List (List ℕ × List ℕ)) → Finds read header.found.tags → HasTags read (tags_of tags)

-- no tag that has begun goes on so
abbrev pub RefusesTag : {A : Type 0} → Item → Header A → PgnFault → Type 0
RefusesTag item old fault =
    (fault ≡ record { place = old.at; kind = Tag }) × (is_begun old.part ≡ true → (read : List (List ℕ × List ℕ)) → step (heading read old) item ≡ None)

-- the end of a tag
abbrev pub Closes : {A : Type 0} → Header A → Header A → Type 0
Closes old new =
    (read : List (List ℕ × List ℕ)) → Finds read old.found.tags
    → (heading (closed (heading read old)).read new ≡ closed (heading read old)) × Finds (closed (heading read old)).read new.found.tags

-- whether a tag that ends is the first one with the name FEN
abbrev pub is_first_fen : List ℕ → List (List ℕ × List ℕ) → Bool
is_first_fen name kept = bytes_eq name (codes "FEN") && is_none (tag_in name kept)

-- the item ends the first tag FEN
abbrev pub ends_fen : Part → Item → List ℕ → List (List ℕ × List ℕ) → Bool
ends_fen Closing items.TagClose name kept = is_first_fen name kept
ends_fen _ _ name kept = false

-- where that tag's bracket is, after an item
abbrev pub fen_place : {A : Type 0} → Header A → Item → ℕ
fen_place old item = if ends_fen old.part item old.name.items old.found.tags then old.at else old.fen_at

-- ---- the start

-- the position of a FEN, or the fault at its tag
abbrev pub start_read : ℕ → Result PositionParts FenFault → Result (Option PositionParts) PgnFault
start_read at (Ok p) = Ok (Some p)
start_read at (Err fault) = Err (record { place = at; kind = Fen })

-- where the bracket of the FEN's tag is at `at`
abbrev pub start_told : ℕ → Option (List ℕ) → Result (Option PositionParts) PgnFault
start_told at None = Ok None
start_told at (Some fen) = start_read at (fen_reading fen)
