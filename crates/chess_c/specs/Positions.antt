-- A position by its six fields, as C sees it, and what they are read as. Unlike a FEN's they are taken as they are: no right and no target is dropped.
--   is_cell         a byte is a man's letter, or 0 for an empty square
--   cells_in        what is on the 64 squares
--   rights_in       the castling rights held: 1 for White's to castle with the rook of h1, 2 with that of a1, 4 and 8 for Black's, added up
--   target_of_code  the en passant target: a square, or 64 for none
--   fields_meant    the six fields, or the fault of the first that says nothing
--   position_meant  the position that they are, or the first fault
--   letter_of, rights_code, target_code, position_shown   a position as C sees it
use Rattle.std.specs.Prelude.{ℕ, ◌+◌, ◌==◌, nat_le, nat_lt, Bool, ◌&&◌, ◌||◌, if◌then◌else◌, List, map, Option, Some, None, is_some, Result, Ok, Err, ok_or}
use Rattle.std.specs.Int.{bit_at}
use Rattle.std.specs.List.{list_all}
use Rattle.chess_types.specs.declared.board.faults.PositionFault.{PositionFault}
use Rattle.chess_types.specs.declared.board.man.Man.{Man}
use Rattle.chess_types.specs.declared.board.position.Rights.{Rights}
use Rattle.chess_types.specs.board.Squares.{squares}
use Rattle.chess_types.specs.board.Cells.{board_of}
use Rattle.chess_types.specs.board.Faults.{position_fault, tested}
use Rattle.chess_types.specs.board.Position.{PositionParts, man_on}
use Rattle.chess_types.specs.board.Texts.{man_letter, man_of_letter}
use Rattle.chess_fen.specs.declared.fault.FenFault.{FenFault}
use Rattle.chess_fen.specs.declared.fault.FenFault.TheVariants.{Placement, Side, Castling, Target, Counter}
use Rattle.chess_fen.specs.Faults.{fault_of}
use Rattle.chess_fen.specs.Reading.{◌>>=◌, demand}
use Rattle.chess_c.specs.declared.positions.CPosition.{CPosition}
use Rattle.chess_c.specs.Codes.{colour_code, colour_of_code}

-- a letter of PGN 16.1.3.1, or 0
abbrev pub is_cell : ℕ → Bool
is_cell byte = byte == 0 || is_some (man_of_letter byte)

-- what is on the squares; 0 is no man's letter
abbrev pub cells_in : List ℕ → Option (List (Option Man))
cells_in bytes = if list_all is_cell bytes then Some (map man_of_letter bytes) else None

-- the castling rights held
abbrev pub rights_in : ℕ → Option Rights
rights_in code =
    if nat_lt code 16 then Some (record {
      white_king = bit_at code 0 == 1;
      white_queen = bit_at code 1 == 1;
      black_king = bit_at code 2 == 1;
      black_queen = bit_at code 3 == 1;
    })
    else None

-- the en passant target
abbrev pub target_of_code : ℕ → Option (Option ℕ)
target_of_code code = if nat_lt code 64 then Some (Some code) else if code == 64 then Some None else None

-- the six fields; both counters are at most 99,999
abbrev pub fields_meant : CPosition → Result PositionParts FenFault
fields_meant c = do
  cells ← ok_or (cells_in c.men) Placement
  side ← ok_or (colour_of_code c.side) Side
  rights ← ok_or (rights_in c.castling) Castling
  target ← ok_or (target_of_code c.target) Target
  _ ← demand (nat_le c.clock 99999 && nat_le c.number 99999) Counter
  Ok (record { placement = board_of cells; side = side; rights = rights; target = target; clock = c.clock; number = c.number })

-- a fault of a position by the FEN's field that spells it
abbrev pub as_of_fen : Result PositionParts PositionFault → Result PositionParts FenFault
as_of_fen (Ok p) = Ok p
as_of_fen (Err fault) = Err (fault_of fault)

-- the position of the fields, or its first fault
abbrev pub position_meant : CPosition → Result PositionParts FenFault
position_meant c = do
  p ← fields_meant c
  as_of_fen (tested (position_fault p) p)

-- a man's letter, and 0 for an empty square
abbrev pub letter_of : Option Man → ℕ
letter_of None = 0
letter_of (Some man) = man_letter man

-- the castling rights held, added up
abbrev pub rights_code : Rights → ℕ
rights_code r =
    (if r.white_king then 1 else 0) + (if r.white_queen then 2 else 0) + (if r.black_king then 4 else 0) + (if r.black_queen then 8 else 0)

-- the target's square, and 64 for none
abbrev pub target_code : Option ℕ → ℕ
target_code None = 64
target_code (Some square) = square

-- a position as C sees it
abbrev pub position_shown : PositionParts → CPosition
position_shown p = record {
  men = map (λ square. letter_of (man_on p square)) squares;
  side = colour_code p.side;
  castling = rights_code p.rights;
  target = target_code p.target;
  clock = p.clock;
  number = p.number;
}
