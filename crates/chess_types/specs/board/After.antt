-- The position after a move (FIDE Laws, articles 3.1, 3.7.3, 3.8.2 and 9.3; PGN 16.1.3).
--   captured_at       where the captured man stands: beside the mover's old square en passant (3.7.3.1), else on its new one
--   moved_man         the man, or what it is promoted to (3.7.3.3)
--   moved_board       the board when the captured man has left it and the man stands on its new square
--   placement_after   and the castling rook on the square that the king crossed (3.8.2)
--   rights_after      a right is lost by any move from or to its king's or its rook's home (3.8.2.1)
--   target_after      the square passed over by an advance of two squares, else none
--   clock_after       0 after a pawn move or a capture, else one more (9.3)
--   number_after      one more after Black's move
--   after             all six fields
use Rattle.std.specs.Prelude.{ℕ, ◌+◌, ◌*◌, ◌==◌, Bool, not, ◌&&◌, ◌||◌, if◌then◌else◌, Option, Some, None, is_some}
use Rattle.std.specs.FinMap.{insert, remove}
use Rattle.chess_types.specs.declared.board.man.Colour.{Colour}
use Rattle.chess_types.specs.declared.board.man.Colour.TheVariants.{White, Black}
use Rattle.chess_types.specs.declared.board.man.Kind.{Kind}
use Rattle.chess_types.specs.declared.board.man.Kind.TheVariants.{Rook}
use Rattle.chess_types.specs.declared.board.man.Man.{Man}
use Rattle.chess_types.specs.declared.board.position.Rights.{Rights}
use Rattle.chess_types.specs.declared.board.position.Wing.{Wing}
use Rattle.chess_types.specs.declared.board.position.Wing.TheVariants.{KingSide, QueenSide}
use Rattle.chess_types.specs.board.Squares.{file_of, rank_of}
use Rattle.chess_types.specs.board.Board.{Board}
use Rattle.chess_types.specs.board.Men.{opponent, is_pawn, is_king}
use Rattle.chess_types.specs.board.MoveParts.{MoveParts}
use Rattle.chess_types.specs.board.Position.{PositionParts, man_on, king_home, rook_home}
use Rattle.chess_types.specs.board.Pseudo.{is_target, midway, crossed, castles_to}

-- a pawn captures the pawn that has just passed over the target
abbrev pub is_en_passant : Option ℕ → Man → MoveParts → Bool
is_en_passant target man m = is_pawn man.kind && is_target target m.to && not (file_of m.from == file_of m.to)

-- en passant the captured pawn is on the rank that the mover leaves and the file that it comes to
abbrev pub captured_at : Option ℕ → Man → MoveParts → ℕ
captured_at target man m = if is_en_passant target man m then 8 * rank_of m.from + file_of m.to else m.to

-- the man on the move's last square: a pawn may have become another (3.7.3.3)
abbrev pub moved_man : Man → Option Kind → Man
moved_man man None = man
moved_man man (Some kind) = record { colour = man.colour; kind = kind }

-- the captured man has left the board, and the mover has gone to the move's last square
abbrev pub moved_board : PositionParts → Man → MoveParts → Board
moved_board p man m = insert (remove (remove p.placement (captured_at p.target man m)) m.from) m.to (moved_man man m.promo)

-- the king castles on that side (3.8.2)
abbrev pub is_castling : Man → Wing → MoveParts → Bool
is_castling man wing m = is_king man.kind && castles_to man.colour wing m

-- a rook of the colour
abbrev pub rook_of : Colour → Man
rook_of colour = record { colour = colour; kind = Rook }

-- the castling rook has gone from its home to the square that the king crossed
abbrev pub with_rook : Colour → Wing → Board → Board
with_rook side wing board = insert (remove board (rook_home side wing)) (crossed side wing) (rook_of side)

-- the board after the move, the castling rook too
abbrev pub placement_after : PositionParts → Man → MoveParts → Board
placement_after p man m =
    if is_castling man KingSide m then with_rook man.colour KingSide (moved_board p man m)
    else (if is_castling man QueenSide m then with_rook man.colour QueenSide (moved_board p man m) else moved_board p man m)

-- the move begins or ends on the square
abbrev pub touches : MoveParts → ℕ → Bool
touches m s = m.from == s || m.to == s

-- a right is kept where the move touches neither the king's home nor the rook's
abbrev pub keeps : Bool → Colour → Wing → MoveParts → Bool
keeps right side wing m = right && not (touches m (king_home side)) && not (touches m (rook_home side wing))

-- the castling rights after the move (3.8.2.1)
abbrev pub rights_after : Rights → MoveParts → Rights
rights_after rights m = record {
  white_king = keeps rights.white_king White KingSide m;
  white_queen = keeps rights.white_queen White QueenSide m;
  black_king = keeps rights.black_king Black KingSide m;
  black_queen = keeps rights.black_queen Black QueenSide m;
}

-- a pawn goes two squares forward
abbrev pub is_advance : Man → MoveParts → Bool
is_advance man m = is_pawn man.kind && (m.to == m.from + 16 || m.from == m.to + 16)

-- the en passant target after the move: the square that a pawn passed over, if it advanced two squares (3.7.3.1)
abbrev pub target_after : Man → MoveParts → Option ℕ
target_after man m = if is_advance man m then Some (midway m) else None

-- the halfmove clock after the move: 0 after a move of a pawn or a capture (9.3)
abbrev pub clock_after : PositionParts → Man → MoveParts → ℕ
clock_after p man m = if is_pawn man.kind || is_some (man_on p m.to) then 0 else p.clock + 1

-- the fullmove number after a move of this side: it grows after Black's
abbrev pub number_after : Colour → ℕ → ℕ
number_after White number = number
number_after Black number = number + 1

-- the position after the man that stands on the move's first square has made it; without a man there, the same position
abbrev pub after_by : PositionParts → Option Man → MoveParts → PositionParts
after_by p None m = p
after_by p (Some man) m = record {
  placement = placement_after p man m;
  side = opponent p.side;
  rights = rights_after p.rights m;
  target = target_after man m;
  clock = clock_after p man m;
  number = number_after p.side p.number;
}

-- the position after the move
unfoldable pub after : PositionParts → MoveParts → PositionParts
after p m = after_by p (man_on p m.from) m
