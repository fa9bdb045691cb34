-- When the king of the side to move may castle, whatever move is meant (FIDE Laws, article 3.8.2).
use Rattle.std.specs.Prelude.{Bool, not, ◌&&◌, is_none}
use Rattle.chess_types.specs.declared.board.man.Colour.{Colour}
use Rattle.chess_types.specs.declared.board.man.Colour.TheVariants.{White, Black}
use Rattle.chess_types.specs.declared.board.position.Wing.{Wing}
use Rattle.chess_types.specs.declared.board.position.Wing.TheVariants.{KingSide, QueenSide}
use Rattle.chess_types.specs.board.Board.{Men}
use Rattle.chess_types.specs.board.Men.{opponent}
use Rattle.chess_types.specs.board.Attack.{is_attacked}
use Rattle.chess_types.specs.board.Position.{PositionParts, man_on, king_home, holds}
use Rattle.chess_types.specs.board.Pseudo.{crossed, reached}

-- no man stands between the king's home and the rook's
abbrev pub is_way_free : Men → Colour → Wing → Bool
is_way_free man_on White KingSide = is_none (man_on 5) && is_none (man_on 6)
is_way_free man_on White QueenSide = is_none (man_on 1) && is_none (man_on 2) && is_none (man_on 3)
is_way_free man_on Black KingSide = is_none (man_on 61) && is_none (man_on 62)
is_way_free man_on Black QueenSide = is_none (man_on 57) && is_none (man_on 58) && is_none (man_on 59)

-- the right is held, nothing stands between king and rook, and no square of the king's way is attacked
abbrev pub may_castle : PositionParts → Wing → Bool
may_castle p wing =
    holds p.rights p.side wing
    && is_way_free (man_on p) p.side wing
    && not (is_attacked (man_on p) (opponent p.side) (king_home p.side))
    && not (is_attacked (man_on p) (opponent p.side) (crossed p.side wing))
    && not (is_attacked (man_on p) (opponent p.side) (reached p.side wing))
