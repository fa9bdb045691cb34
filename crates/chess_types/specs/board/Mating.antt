-- Which side can't mate any more by any series of legal moves (FIDE Laws, article 6.9), as far as this list goes. In other positions, too, a
-- side may be unable to; the list stops here.
--   is_bare       the side has only its king
--   cannot_mate   it has, or the position is dead
use Rattle.std.specs.Prelude.{◌==◌, Bool, ◌||◌}
use Rattle.chess_types.specs.declared.board.man.Colour.{Colour}
use Rattle.chess_types.specs.board.Men.{men_of}
use Rattle.chess_types.specs.board.Position.{PositionParts}
use Rattle.chess_types.specs.board.Dead.{is_dead}

-- the king is the side's last man
abbrev pub is_bare : PositionParts → Colour → Bool
is_bare p side = men_of p.placement side == 1

-- a king alone gives no mate, and in a dead position nobody does (5.2.2)
unfoldable pub cannot_mate : PositionParts → Colour → Bool
cannot_mate p side = is_bare p side || is_dead p
