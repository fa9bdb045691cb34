use Rattle.std.proofs.Common.{subst}
use Rattle.chess_collection.specs.Handling.{GoesOver}
use Rattle.chess_salvage.specs.Endings.{ComesLast}
use Rattle.chess_games.specs.Forms.{head_in}
use Rattle.chess_games.specs.Salvaged.{IsSavedIn}
use Rattle.chess_games.proofs.salvaging.filter_saving.Goals as goal

pub returns : goal.returns
returns g c = (
  c.save_all-ended.new.window,
  subst
      (λ reads. GoesOver g.R.Source.gives g.R.Source.failed (λ number offset bytes used fate text. IsSavedIn c.args.wanted.letters c.args.wanted.form c.args.wanted.part number offset bytes used fate text) (λ bytes. ComesLast bytes) g.R.Source.ended reads g.W.Sink.takes g.W.Sink.failed
      (head_in c.args.wanted.form) c.args.reader c.save_all-ended.new.window c.args.writer.now c.save_all-ended.new.writer c.save_all-ended.result)
      c.new-window.ensures.reads
      (subst
      (λ source. GoesOver g.R.Source.gives g.R.Source.failed (λ number offset bytes used fate text. IsSavedIn c.args.wanted.letters c.args.wanted.form c.args.wanted.part number offset bytes used fate text) (λ bytes. ComesLast bytes) g.R.Source.ended c.new-window.result.reads g.W.Sink.takes g.W.Sink.failed
      (head_in c.args.wanted.form) source c.save_all-ended.new.window c.args.writer.now c.save_all-ended.new.writer c.save_all-ended.result)
      c.new-window.ensures.source c.save_all-ended.ensures),
)
