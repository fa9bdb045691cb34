use Rattle.std.proofs.Common.{◌∙◌, ap, Err}
use Rattle.chess_pgn.specs.Sources.{IsGivenUpInPart}
use Rattle.chess_pgn.specs.declared.games.GamesFault.TheVariants.{Pgn, Read}
use Rattle.chess_games.proofs.FilteredLemmas.{err_holds}
use Rattle.chess_games.proofs.filter.pass.Goals as goal

pub returns-in-Err-Read-clause-in_part : goal.returns-in-Err-Read-clause-in_part
returns-in-Err-Read-clause-in_part g c =
    λ fault before e on left. err_holds (λ f. IsGivenUpInPart g.R.Source.gives g.R.Source.failed before c.pass_over.new.self.text f) c.pass_over.result Read (c.in-Err-Read.is ∙ ap Err c.in-Err-Read.field-0-is)
    (c.pass_over.ensures.in_part fault before e on left)

pub returns-in-Err-Pgn-clause-in_part : goal.returns-in-Err-Pgn-clause-in_part
returns-in-Err-Pgn-clause-in_part g c =
    λ fault before e on left. (err_holds (λ f. IsGivenUpInPart g.R.Source.gives g.R.Source.failed before c.pass_over.new.self.text f) c.pass_over.result (Pgn _) (c.in-Err-Pgn.is ∙ ap Err c.in-Err-Pgn.field-0-is)
    (c.pass_over.ensures.in_part fault before e on left)).1
