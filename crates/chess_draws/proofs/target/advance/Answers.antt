use Rattle.std.proofs.Common.{sym, subst}
use Rattle.chess_types.specs.board.Position.{PositionParts}
use Rattle.chess_play.specs.Records.{IsBefore}
use Rattle.chess_draws.proofs.target.advance.Goals as goal

pub undo-requires : goal.undo-requires
undo-requires g c = record {
  fits = record {
    before = c.args.live.now.position;
    is_before = subst (λ (p : PositionParts). IsBefore p c.make-made.result c.args.live.now.position) (sym c.counting_target-target.ensures.position)
        c.make-made.ensures.is_before;
  };
}
