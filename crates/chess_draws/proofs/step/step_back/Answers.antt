use Rattle.std.proofs.Common.{sym, subst}
use Rattle.chess_play.specs.Records.{IsBefore, RecordParts}
use Rattle.chess_draws.proofs.step.step_back.Goals as goal

pub take_back-requires : goal.take_back-requires
take_back-requires g c = record {
  fits = record {
    before = c.requires.fits.before;
    is_before = subst (λ (k : RecordParts). IsBefore c.args.live.now.position k c.requires.fits.before) (sym c.past.ensures) c.requires.fits.is_before;
  };
}
