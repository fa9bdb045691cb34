-- What an entry of an opening book says at a position.
--   entry_move  the move that it stands for, where its key is the position's
--   booked      that move, where it is legal
--   IsBooked    that move, how often to play it and the number for a program's own use are written, or why not
use Rattle.std.specs.Prelude.{◌≡◌, ℕ, ◌+◌, ◌*◌, ◌==◌, nat_lt, Bool, true, false, if◌then◌else◌, List, Option, Some, None}
use Rattle.chess_types.specs.board.MoveParts.{MoveParts}
use Rattle.chess_types.specs.board.Position.{PositionParts, man_on}
use Rattle.chess_polyglot.specs.Books.{big_endian, entries_in, if_legal, key_at, named_move}
use Rattle.chess_polyglot.specs.Keys.{polyglot_key}
use Rattle.chess_c.specs.declared.moves.CMove.{CMove}
use Rattle.chess_bindings.specs.Codes.{argument, not_legal, ok}
use Rattle.chess_c.specs.Moves.{move_shown}

-- the move that an entry stands for; one of another position says nothing here
abbrev pub entry_move : PositionParts → List ℕ → ℕ → Option MoveParts
entry_move p book entry = if key_at book entry == polyglot_key p then named_move (man_on p) p.side (big_endian book (16 * entry + 8) 2) else None

-- that move, where it is legal
abbrev pub booked : List ℕ → ℕ → PositionParts → Option MoveParts
booked book entry p = if_legal p (entry_move p book entry)

-- a move, or none
abbrev pub BookedAs : Option MoveParts → List ℕ → (entry code : ℕ) → (said said' : CMove) → (weight weight' learn learn' : ℕ) → Type 0
BookedAs None book entry code said said' weight weight' learn learn' = (code ≡ not_legal) × (said' ≡ said) × (weight' ≡ weight) × (learn' ≡ learn)
BookedAs (Some m) book entry code said said' weight weight' learn learn' =
    (code ≡ ok) × (said' ≡ move_shown m) × (weight' ≡ big_endian book (16 * entry + 10) 2) × (learn' ≡ big_endian book (16 * entry + 12) 4)

-- by whether the book has the entry
abbrev pub BookedIf : Bool → List ℕ → ℕ → PositionParts → (code : ℕ) → (said said' : CMove) → (weight weight' learn learn' : ℕ) → Type 0
BookedIf true book entry p code said said' weight weight' learn learn' = BookedAs (booked book entry p) book entry code said said' weight weight' learn learn'
BookedIf false book entry p code said said' weight weight' learn learn' = (code ≡ argument) × (said' ≡ said) × (weight' ≡ weight) × (learn' ≡ learn)

-- entries are counted from 0
abbrev pub IsBooked : List ℕ → ℕ → PositionParts → (code : ℕ) → (said said' : CMove) → (weight weight' learn learn' : ℕ) → Type 0
IsBooked book entry p code said said' weight weight' learn learn' =
    BookedIf (nat_lt entry (entries_in book)) book entry p code said said' weight weight' learn learn'
