-- What a side that can't mate never does (FIDE Laws, article 6.9).
--   mates        the side has mated: the other is to move, in check and without a legal move
--   NeverMates   no series of legal moves leads there, once the side can't mate
use Rattle.std.specs.Prelude.{◌≡◌, ◌&&◌, Bool, true, false, List}
use Rattle.chess_types.specs.declared.board.man.Colour.{Colour}
use Rattle.chess_types.specs.board.MoveParts.{MoveParts}
use Rattle.chess_types.specs.board.Men.{opponent, same_colour}
use Rattle.chess_types.specs.board.Position.{PositionParts, IsWellFormed}
use Rattle.chess_types.specs.board.Lines.{play}
use Rattle.chess_types.specs.board.Mating.{cannot_mate}
use Rattle.chess_theorems.specs.DeadLaws.{AreListed, is_mate}

-- the other side is mated
abbrev pub mates : Colour → PositionParts → Bool
mates side p = same_colour p.side (opponent side) && is_mate p

-- whatever legal moves both sides make
abbrev pub NeverMates : Type 0
NeverMates =
    (p : PositionParts) (side : Colour) (moves : List MoveParts) → IsWellFormed p → cannot_mate p side ≡ true → AreListed p moves → mates side (play p moves) ≡ false
