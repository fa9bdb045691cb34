use Rattle.std.proofs.Common.{◌∙◌, subst}
use Rattle.chess_collection.specs.Handling.{GoesOver}
use Rattle.chess_salvage.specs.Endings.{ComesLast}
use Rattle.chess_games.specs.Salvaged.{IsSavedIn}
use Rattle.chess_games.proofs.salvaging.save_all.Goals as goal

pub returns : goal.returns
returns g c =
    subst
    (λ head. GoesOver g.R.Source.gives g.R.Source.failed (λ number offset bytes used fate text. IsSavedIn c.args.wanted.now.letters c.args.wanted.now.form c.args.wanted.now.part number offset bytes used fate text) (λ bytes. ComesLast bytes) g.R.Source.ended c.args.window.now.reads g.W.Sink.takes g.W.Sink.failed head
    c.args.window.now.source c.go_over.new.window c.args.writer.now c.go_over.new.writer c.go_over.result)
    (c.as_slice.ensures.value ∙ c.in-Ok.ensures) c.go_over.ensures
