-- What may be wrong with six fields that are to be a position (FIDE Laws, articles 2.2, 3.7, 3.8.2 and 3.9; PGN 16.1.3), the first in
-- the order of `PositionFault`.
--   has_one_king_each, has_pawn_on_edge, has_at_most_16_each   what is asked of the men
--   men_fault        the first of these that fails
--   is_home          the king and the rook to castle with stand where a game begins
--   are_home         those of each right that is held do
--   is_explained_if  a target is explained by a pawn's advance just made; none needs nothing
--   setup_fault      the first fault of all but the last: the fields are no setup
--   position_fault   the first fault of all: the fields are no position
--   tested           the fields, where there is no fault
--   with_cell        a board on which one square holds something else
use Rattle.std.specs.Prelude.{ℕ, ◌==◌, nat_le, Bool, true, not, ◌&&◌, ◌||◌, if◌then◌else◌, Option, Some, None, Result, Ok, Err}
use Rattle.std.specs.List.{list_any}
use Rattle.std.specs.FinMap.{insert, remove}
use Rattle.chess_types.specs.declared.board.faults.PositionFault.{PositionFault}
use Rattle.chess_types.specs.declared.board.faults.PositionFault.TheVariants as Fault
use Rattle.chess_types.specs.declared.board.faults.PositionFault.TheVariants.{Kings, PawnRank, TooManyMen, Target, Counters, InCheck}
use Rattle.chess_types.specs.declared.board.man.Colour.{Colour}
use Rattle.chess_types.specs.declared.board.man.Colour.TheVariants.{White, Black}
use Rattle.chess_types.specs.declared.board.man.Man.{Man}
use Rattle.chess_types.specs.declared.board.man.Kind.TheVariants.{Rook, King}
use Rattle.chess_types.specs.declared.board.position.Rights.{Rights}
use Rattle.chess_types.specs.declared.board.position.Wing.{Wing}
use Rattle.chess_types.specs.declared.board.position.Wing.TheVariants.{KingSide, QueenSide}
use Rattle.chess_types.specs.board.Squares.{rank_of, squares}
use Rattle.chess_types.specs.board.Board.{Board, Men, man_at}
use Rattle.chess_types.specs.board.Men.{is_man, opponent, holds_pawn, men_of, kings_of}
use Rattle.chess_types.specs.board.Attack.{in_check}
use Rattle.chess_types.specs.board.Position.{PositionParts, man_on, is_explained, king_home, rook_home, holds}

-- each side has exactly one king
abbrev pub has_one_king_each : Board → Bool
has_one_king_each board = kings_of board White == 1 && kings_of board Black == 1

-- rank 1 or rank 8
abbrev pub is_edge : ℕ → Bool
is_edge square = rank_of square == 0 || rank_of square == 7

-- a pawn is on rank 1 or rank 8
abbrev pub has_pawn_on_edge : Men → Bool
has_pawn_on_edge man_on = list_any (λ square. is_edge square && holds_pawn (man_on square)) squares

-- each side has at most 16 men
abbrev pub has_at_most_16_each : Board → Bool
has_at_most_16_each board = nat_le (men_of board White) 16 && nat_le (men_of board Black) 16

-- the first fault of the men, if there is one
unfoldable pub men_fault : Board → Option PositionFault
men_fault board =
    if not (has_one_king_each board) then Some Kings
    else (if has_pawn_on_edge (man_at board) then Some PawnRank
    else (if not (has_at_most_16_each board) then Some TooManyMen
    else None))

-- the king and the rook to castle with stand where a game begins
abbrev pub is_home : Men → Colour → Wing → Bool
is_home man_on colour wing = is_man (man_on (king_home colour)) colour King && is_man (man_on (rook_home colour wing)) colour Rook

-- where the right is held
abbrev pub is_home_if : Men → Rights → Colour → Wing → Bool
is_home_if man_on rights colour wing = not (holds rights colour wing) || is_home man_on colour wing

-- each right that is held has its king and rook at home
abbrev pub are_home : Men → Rights → Bool
are_home man_on rights =
    (is_home_if man_on rights White KingSide && is_home_if man_on rights White QueenSide)
    && (is_home_if man_on rights Black KingSide && is_home_if man_on rights Black QueenSide)

-- the target, if there is one, is explained by an advance of two squares
abbrev pub is_explained_if : Colour → Men → Option ℕ → Bool
is_explained_if side man_on None = true
is_explained_if side man_on (Some t) = is_explained side man_on t

-- of the side to move, the rights, the target and the fullmove number, beside the men
unfoldable pub fields_fault : Men → Colour → Rights → Option ℕ → ℕ → Option PositionFault
fields_fault man_on side rights target number =
    if not (are_home man_on rights) then Some Fault.Rights
    else (if not (is_explained_if side man_on target) then Some Target
    else (if number == 0 then Some Counters
    else None))

-- the first fault, and where there is none the second
abbrev pub first_of : Option PositionFault → Option PositionFault → Option PositionFault
first_of (Some fault) other = Some fault
first_of None other = other

-- the first fault of the fields of a setup, if there is one
unfoldable pub setup_fault : PositionParts → Option PositionFault
setup_fault p = first_of (men_fault p.placement) (fields_fault (man_on p) p.side p.rights p.target p.number)

-- the first fault of the fields of a position, if there is one
unfoldable pub position_fault : PositionParts → Option PositionFault
position_fault p = first_of (setup_fault p) (if in_check (man_on p) (opponent p.side) then Some InCheck else None)

-- the position, or its fault
abbrev pub tested : Option PositionFault → PositionParts → Result PositionParts PositionFault
tested None p = Ok p
tested (Some fault) p = Err fault

-- what stands on one square is changed
abbrev pub with_cell : Board → ℕ → Option Man → Board
with_cell board at None = remove board at
with_cell board at (Some man) = insert board at man
