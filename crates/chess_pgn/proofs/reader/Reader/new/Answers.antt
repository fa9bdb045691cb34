use Rattle.std.proofs.Common.{[], refl, subst}
use Rattle.chess_types.specs.board.Position.{PositionParts}
use Rattle.chess_pgn.specs.steps.Readings.{Stands, fresh}
use Rattle.chess_pgn.proofs.GivenLemmas.{took_none}
use Rattle.chess_pgn.proofs.reader.Reader.new.Goals as goal

pub returns : goal.returns
returns g c = record {
  tags = took_none c.new.result c.new.ensures.none c.new.ensures.found;
  lead = subst (λ (s : PositionParts). Stands c.new-2.result (fresh s [])) c.start.ensures c.new-2.ensures;
  moving = refl;
  outcome = refl;
}
