-- The position that a FEN spells, or the first fault of a text that is none (PGN 16.1.3). A text is read as its words between
-- spaces: four fields, or six with the two counters.
--   fields_in      the texts of the six fields; without counters, 0 and 1 stand for them
--   board_in       the men (PGN 16.1.3.1): one king a side, no pawn on ranks 1 and 8, at most 16 men a side
--   side_in        the side to move (PGN 16.1.3.2)
--   castling_in    the castling rights that are written (PGN 16.1.3.3)
--   kept_rights    those whose king and rook stand at home
--   target_in      the en passant target that is written (PGN 16.1.3.4)
--   kept_target    that target, where a pawn's advance just made explains it
--   counter_in     the halfmove clock or the fullmove number (PGN 16.1.3.5 and 16.1.3.6), at most 99,999
--   fen_reading        the position, in which the side not to move isn't in check, or the fault
use Rattle.std.specs.Prelude.{ℕ, ◌==◌, nat_le, max, Bool, true, false, not, ◌&&◌, if◌then◌else◌, List, [], ◌∷◌, length, count_by, Option, Some, None, option_map, Result, Ok, Err, ok_or, codes, bytes_eq}
use Rattle.std.specs.List.{list_any, list_all, find}
use Rattle.std.specs.Char.{is_ascii_digit}
use Rattle.std.specs.Str.Parse.{digits_value}
use Rattle.std.specs.Str.{byte}
use Rattle.chess_types.specs.declared.board.man.Colour.{Colour}
use Rattle.chess_types.specs.declared.board.man.Colour.TheVariants.{White, Black}
use Rattle.chess_types.specs.declared.board.position.Rights.{Rights}
use Rattle.chess_types.specs.declared.board.position.Wing.TheVariants.{KingSide, QueenSide}
use Rattle.chess_types.specs.board.Squares.{squares}
use Rattle.chess_types.specs.board.Board.{Board, Men, man_at}
use Rattle.chess_types.specs.board.Cells.{board_of}
use Rattle.chess_types.specs.board.Men.{opponent}
use Rattle.chess_types.specs.board.Attack.{in_check}
use Rattle.chess_types.specs.board.Position.{PositionParts, is_explained}
pub use Rattle.chess_types.specs.board.Faults.{has_one_king_each, is_edge, has_pawn_on_edge, has_at_most_16_each, is_home}
use Rattle.chess_types.specs.board.Texts.{square_text}
use Rattle.byte_streams.specs.Words.{words}
use Rattle.chess_fen.specs.declared.fault.FenFault.{FenFault}
use Rattle.chess_fen.specs.declared.fault.FenFault.TheVariants.{Fields, Placement, Kings, PawnRank, TooManyMen, Side, Castling, Target, Counter, InCheck}
use Rattle.chess_fen.specs.Ranks.{board_cells}

-- the rest, where the first part has no fault
infixl 10 ◌>>=◌
-- the first fault counts
abbrev pub ◌>>=◌ : {A B : Type 0} → Result A FenFault → (A → Result B FenFault) → Result B FenFault
(Ok x) >>= next = next x
(Err fault) >>= next = Err fault

-- the fault, unless the test holds
abbrev pub demand : Bool → FenFault → Result (Unit {0}) FenFault
demand true fault = Ok tt
demand false fault = Err fault

-- the texts of the six fields
pub record FieldTexts : Type 0 where
  pub placement : List ℕ
  pub side : List ℕ
  pub castling : List ℕ
  pub target : List ℕ
  pub clock : List ℕ
  pub number : List ℕ

-- the texts of the two counters: both, or none, for which 0 and 1 stand
abbrev pub counters_in : List (List ℕ) → Result (List ℕ × List ℕ) FenFault
counters_in [] = Ok (codes "0", codes "1")
counters_in (clock ∷ number ∷ []) = Ok (clock, number)
counters_in _ = Err Fields

-- four words, after which the counters may stand
abbrev pub fields_of : List (List ℕ) → Result FieldTexts FenFault
fields_of (placement ∷ side ∷ castling ∷ target ∷ counters) = do
  texts ← counters_in counters
  Ok (record { placement = placement; side = side; castling = castling; target = target; clock = texts.0; number = texts.1 })
fields_of _ = Err Fields

-- the words, separated by spaces
unfoldable pub fields_in : List ℕ → Result FieldTexts FenFault
fields_in text = fields_of (words (codes " ") text)

-- the men of a field, or its first fault
unfoldable pub board_in : List ℕ → Result Board FenFault
board_in field = do
  cells ← ok_or (board_cells field) Placement
  _ ← demand (has_one_king_each (board_of cells)) Kings
  _ ← demand (not (has_pawn_on_edge (man_at (board_of cells)))) PawnRank
  _ ← demand (has_at_most_16_each (board_of cells)) TooManyMen
  Ok (board_of cells)

-- the side to move of a field
unfoldable pub side_in : List ℕ → Result Colour FenFault
side_in field = if bytes_eq field (codes "w") then Ok White else (if bytes_eq field (codes "b") then Ok Black else Err Side)

-- no castling right
abbrev pub no_rights : Rights
no_rights = record { white_king = false; white_queen = false; black_king = false; black_queen = false }

-- the letter stands among these
abbrev pub has_letter : List ℕ → ℕ → Bool
has_letter letters letter = list_any (λ l. l == letter) letters

-- a letter of KQkq that stands there once
abbrev pub is_castling_letter : List ℕ → ℕ → Bool
is_castling_letter field letter = has_letter (codes "KQkq") letter && count_by (λ l. l == letter) field == 1

-- one letter of KQkq or more, none twice, in any order
abbrev pub is_castling_field : List ℕ → Bool
is_castling_field field = nat_le 1 (length field) && list_all (is_castling_letter field) field

-- K, Q, k and q are 75, 81, 107 and 113; an upper-case letter is White's, K and k are of the king's wing
abbrev pub rights_of : List ℕ → Rights
rights_of field = record {
  white_king = has_letter field (byte "K");
  white_queen = has_letter field (byte "Q");
  black_king = has_letter field (byte "k");
  black_queen = has_letter field (byte "q");
}

-- the castling rights of a field
unfoldable pub castling_in : List ℕ → Result Rights FenFault
castling_in field =
    if bytes_eq field (codes "-") then Ok no_rights else (if is_castling_field field then Ok (rights_of field) else Err Castling)

-- the rights whose king and rook are at home
unfoldable pub kept_rights : Men → Rights → Rights
kept_rights man_on rights = record {
  white_king = rights.white_king && is_home man_on White KingSide;
  white_queen = rights.white_queen && is_home man_on White QueenSide;
  black_king = rights.black_king && is_home man_on Black KingSide;
  black_queen = rights.black_queen && is_home man_on Black QueenSide;
}

-- the square of that name
unfoldable pub square_in : List ℕ → Option ℕ
square_in field = find (λ s. bytes_eq field (square_text s)) squares

-- the en passant target of a field
unfoldable pub target_in : List ℕ → Result (Option ℕ) FenFault
target_in field = if bytes_eq field (codes "-") then Ok None else ok_or (option_map (λ s. Some s) (square_in field)) Target

-- the target, where it is explained
unfoldable pub kept_target : Colour → Men → Option ℕ → Option ℕ
kept_target side man_on None = None
kept_target side man_on (Some t) = if is_explained side man_on t then Some t else None

-- decimal digits, one or more, that write at most 99,999; zeros may stand first
abbrev pub is_counter : List ℕ → Bool
is_counter field = nat_le 1 (length field) && list_all is_ascii_digit field && nat_le (digits_value 10 field) 99999

-- the number of a field, at most 99,999
unfoldable pub counter_in : List ℕ → Result ℕ FenFault
counter_in field = if is_counter field then Ok (digits_value 10 field) else Err Counter

-- a fullmove number of 0 is read as 1
unfoldable pub fen_reading : List ℕ → Result PositionParts FenFault
fen_reading text = do
  fields ← fields_in text
  placement ← board_in fields.placement
  side ← side_in fields.side
  rights ← castling_in fields.castling
  target ← target_in fields.target
  clock ← counter_in fields.clock
  number ← counter_in fields.number
  _ ← demand (not (in_check (man_at placement) (opponent side))) InCheck
  Ok (record {
    placement = placement;
    side = side;
    rights = kept_rights (man_at placement) rights;
    target = kept_target side (man_at placement) target;
    clock = clock;
    number = max number 1;
  })
