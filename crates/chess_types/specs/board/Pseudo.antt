-- Which moves the men may make, before one looks at the mover's own king (FIDE Laws, articles 3.1 to 3.8).
--   may_enter          a square is empty, or holds a man of the other side that may be captured (3.1)
--   steps_one, steps_two, pawn_takes   the moves of a pawn (3.7)
--   pawn_promotion_fits      a move names what a pawn becomes exactly where a pawn reaches the last rank (3.7.3.3)
--   moves_as_it_attacks               a man goes to a square that it attacks (3.2 to 3.6, 3.8.1)
--   castles            the king castles (3.8.2)
--   is_pseudo          the move is pseudo-legal: by a man of the side to move, in one of these ways
use Rattle.std.specs.Prelude.{ℕ, ◌+◌, ◌/◌, ◌==◌, Bool, false, not, ◌&&◌, ◌||◌, if◌then◌else◌, Option, Some, None, is_none, is_some}
use Rattle.chess_types.specs.declared.board.man.Colour.{Colour}
use Rattle.chess_types.specs.declared.board.man.Colour.TheVariants.{White, Black}
use Rattle.chess_types.specs.declared.board.man.Kind.{Kind}
use Rattle.chess_types.specs.declared.board.man.Kind.TheVariants.{Pawn, Knight, Bishop, Rook, Queen, King}
use Rattle.chess_types.specs.declared.board.man.Man.{Man}
use Rattle.chess_types.specs.declared.board.position.Wing.{Wing}
use Rattle.chess_types.specs.declared.board.position.Wing.TheVariants.{KingSide, QueenSide}
use Rattle.chess_types.specs.board.Squares.{rank_of}
use Rattle.chess_types.specs.board.Men.{same_colour, opponent, is_king}
use Rattle.chess_types.specs.board.Attack.{leaps, attacks_as, is_clear, is_attacked}
use Rattle.chess_types.specs.board.MoveParts.{MoveParts}
use Rattle.chess_types.specs.board.Texts.{names_promotion}
use Rattle.chess_types.specs.board.Position.{PositionParts, man_on, home_square, king_home, rook_home, holds}

-- a man of the other side stands there, which isn't its king: a king is never taken (1.4.1)
abbrev pub is_capturable : Colour → Option Man → Bool
is_capturable side None = false
is_capturable side (Some man) = not (same_colour man.colour side) && not (is_king man.kind)

-- a man of the side may come there, or capture there (3.1)
abbrev pub may_enter : Colour → Option Man → Bool
may_enter side there = is_none there || is_capturable side there

-- the square is the en passant target
abbrev pub is_target : Option ℕ → ℕ → Bool
is_target None s = false
is_target (Some t) s = t == s

-- b is one square forward of a
abbrev pub is_ahead : Colour → ℕ → ℕ → Bool
is_ahead White a b = b == a + 8
is_ahead Black a b = a == b + 8

-- the rank on which the pawns of a colour begin
abbrev pub pawn_rank : Colour → ℕ
pawn_rank White = 1
pawn_rank Black = 6

-- the rank on which they are promoted
abbrev pub last_rank : Colour → ℕ
last_rank White = 7
last_rank Black = 0

-- the square halfway, which a pawn passes over when it advances two squares
abbrev pub midway : MoveParts → ℕ
midway m = (m.from + m.to) / 2

-- one square forward, to an empty square (3.7.1)
abbrev pub steps_one : PositionParts → MoveParts → Bool
steps_one p m = is_ahead p.side m.from m.to && is_none (man_on p m.to)

-- two squares forward from the rank where it began, over an empty square to another (3.7.2)
abbrev pub steps_two : PositionParts → MoveParts → Bool
steps_two p m =
    rank_of m.from == pawn_rank p.side && is_ahead p.side m.from (midway m) && is_ahead p.side (midway m) m.to
    && is_none (man_on p (midway m)) && is_none (man_on p m.to)

-- diagonally forward, to capture a man there (3.7.3) or the pawn that has just passed over that square (3.7.3.1)
abbrev pub pawn_takes : PositionParts → MoveParts → Bool
pawn_takes p m = leaps p.side Pawn m.from m.to && (is_capturable p.side (man_on p m.to) || is_target p.target m.to)

-- a pawn's move names what it becomes on the last rank: a queen, rook, bishop or knight; and nothing on any other
abbrev pub pawn_promotion_fits : Colour → MoveParts → Bool
pawn_promotion_fits side m = if rank_of m.to == last_rank side then is_some m.promo && names_promotion m.promo else is_none m.promo

-- the square that the king crosses when it castles: f1, d1, f8, d8
abbrev pub crossed : Colour → Wing → ℕ
crossed colour wing = home_square colour wing 5 3

-- the square that it reaches: g1, c1, g8, c8
abbrev pub reached : Colour → Wing → ℕ
reached colour wing = home_square colour wing 6 2

-- from the king's home two squares towards that wing's rook
abbrev pub castles_to : Colour → Wing → MoveParts → Bool
castles_to side wing m = m.from == king_home side && m.to == reached side wing

-- Castling: the right is held, no man stands between king and rook, and the king's square, the one that it crosses and the
-- one that it reaches aren't attacked by the other side (3.8.2).
abbrev pub castles : PositionParts → Wing → MoveParts → Bool
castles p wing m =
    castles_to p.side wing m && holds p.rights p.side wing
    && is_clear (man_on p) (king_home p.side) (rook_home p.side wing)
    && not (is_attacked (man_on p) (opponent p.side) (king_home p.side))
    && not (is_attacked (man_on p) (opponent p.side) (crossed p.side wing))
    && not (is_attacked (man_on p) (opponent p.side) (reached p.side wing))

-- to a square that the man attacks and may enter (3.2 to 3.6, 3.8.1)
abbrev pub moves_as_it_attacks : PositionParts → Kind → MoveParts → Bool
moves_as_it_attacks p kind m = attacks_as (record { colour = p.side; kind = kind }) (man_on p) m.from m.to && may_enter p.side (man_on p m.to)

-- how a man of the side to move may go, by its kind
unfoldable pub moves_as : PositionParts → Kind → MoveParts → Bool
moves_as p Pawn m = (steps_one p m || steps_two p m || pawn_takes p m) && pawn_promotion_fits p.side m
moves_as p Knight m = moves_as_it_attacks p Knight m && is_none m.promo
moves_as p Bishop m = moves_as_it_attacks p Bishop m && is_none m.promo
moves_as p Rook m = moves_as_it_attacks p Rook m && is_none m.promo
moves_as p Queen m = moves_as_it_attacks p Queen m && is_none m.promo
moves_as p King m = (moves_as_it_attacks p King m || castles p KingSide m || castles p QueenSide m) && is_none m.promo

-- the man on the move's first square is of the side to move, and moves so
abbrev pub moves_man : PositionParts → Option Man → MoveParts → Bool
moves_man p None m = false
moves_man p (Some man) m = same_colour man.colour p.side && moves_as p man.kind m

-- pseudo-legal: legal but perhaps for the mover's own king
abbrev pub is_pseudo : PositionParts → MoveParts → Bool
is_pseudo p m = moves_man p (man_on p m.from) m
