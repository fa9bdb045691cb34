use Rattle.std.proofs.Common.{sym, subst}
use Rattle.chess_items.specs.Coming.{AtHand}
use Rattle.chess_pgn.specs.Sources.{IsGivenUpInPart}
use Rattle.chess_pgn.proofs.SourceLemmas.{part_placed}
use Rattle.chess_pgn.proofs.games.Games.pass_over.Goals as goal

pub returns-in-Err-clause-in_part : goal.returns-in-Err-clause-in_part
returns-in-Err-clause-in_part g c = λ fault before is on leaves.
    subst (λ (t : AtHand g.row.R.Denot). IsGivenUpInPart g.R.Source.gives g.R.Source.failed before t c.keep.result) (sym c.keep.ensures.text)
    (part_placed g.R.Source.gives g.R.Source.failed before c.pass.new.self.text c.in-Err.fault c.keep.result c.keep.ensures.kind (c.in-Err.ensures.in_part fault before is leaves))
