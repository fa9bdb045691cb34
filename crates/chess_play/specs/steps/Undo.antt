-- What is needed to take a move back.
--   mover           the man that made the move
--   number_before   the fullmove number before it
--   before_by       the position before it: the steps taken back, and what the record keeps
use Rattle.std.specs.Prelude.{ℕ, ◌-◌, Option, Some, None}
use Rattle.chess_types.specs.declared.board.man.Colour.{Colour}
use Rattle.chess_types.specs.declared.board.man.Colour.TheVariants.{White, Black}
use Rattle.chess_types.specs.declared.board.man.Kind.{Kind}
use Rattle.chess_types.specs.declared.board.man.Kind.TheVariants.{Pawn}
use Rattle.chess_types.specs.declared.board.man.Man.{Man}
use Rattle.chess_types.specs.board.Position.{PositionParts}
use Rattle.chess_play.specs.steps.Boards.{carried_back}
use Rattle.chess_play.specs.Records.{RecordParts}

-- The man that made the move, from what the move promotes to and the man that stands on its last square: a pawn where it
-- promotes (FIDE Laws, article 3.7.3.3), else that man.
abbrev pub mover : Option Kind → Man → Man
mover None man = man
mover (Some promoted) man = record { colour = man.colour; kind = Pawn }

-- one less before Black's move
abbrev pub number_before : Colour → ℕ → ℕ
number_before White number = number
number_before Black number = number - 1

-- the position before the move of the record, by this man
abbrev pub before_by : PositionParts → RecordParts → Man → PositionParts
before_by now kept man = record {
  placement = carried_back kept.target man kept.played kept.captured now.placement;
  side = man.colour;
  rights = kept.rights;
  target = kept.target;
  clock = kept.clock;
  number = number_before man.colour now.number;
}
