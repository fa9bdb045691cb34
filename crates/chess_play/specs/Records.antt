-- What is kept of a move made, to take it back.
--   RecordParts   the move, and what the position after it no longer shows
--   record_of     the record of a move in a position
--   IsBefore      a position is the one before the move of a record
--   Fits          there is such a position
use Rattle.std.specs.Prelude.{◌≡◌, ℕ, true, Option, Some, None}
use Rattle.chess_types.specs.declared.board.man.Man.{Man}
use Rattle.chess_types.specs.declared.board.position.Rights.{Rights}
use Rattle.chess_types.specs.board.MoveParts.{MoveParts}
use Rattle.chess_types.specs.board.Position.{PositionParts, IsSetup, man_on}
use Rattle.chess_types.specs.board.Pseudo.{is_pseudo}
use Rattle.chess_types.specs.board.After.{captured_at, after}

-- what is needed to take a move back
pub record RecordParts : Type 0 where
  pub played : MoveParts
  pub captured : Option Man
  pub rights : Rights
  pub target : Option ℕ
  pub clock : ℕ

-- the man that the move captures
abbrev pub captured_by : PositionParts → Option Man → MoveParts → Option Man
captured_by p None m = None
captured_by p (Some man) m = man_on p (captured_at p.target man m)

-- the record of a move that is about to be made
abbrev pub record_of : PositionParts → MoveParts → RecordParts
record_of p m = record {
  played = m;
  captured = captured_by p (man_on p m.from) m;
  rights = p.rights;
  target = p.target;
  clock = p.clock;
}

-- The position p, in which the record's move is pseudo-legal, is the one before it, and what the record keeps is p's.
pub record IsBefore (now : PositionParts) (kept : RecordParts) (p : PositionParts) : Type 0 where
  pub setup : IsSetup p
  pub pseudo : is_pseudo p kept.played ≡ true
  pub kept_is : kept ≡ record_of p kept.played
  pub now_is : now ≡ after p kept.played

-- the record fits the position: it is that of a move that led to it
pub record Fits (now : PositionParts) (kept : RecordParts) : Type 0 where
  pub before : PositionParts
  pub is_before : IsBefore now kept before
