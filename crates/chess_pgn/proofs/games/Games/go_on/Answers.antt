use Rattle.std.proofs.Common.{ap, subst}
use Rattle.std.specs.Prelude.{IfErr}
use Rattle.chess_items.specs.Coming.{AtHand}
use Rattle.chess_items.specs.steps.Seeking.{SeekBreaks}
use Rattle.chess_pgn.specs.Sources.{Games}
use Rattle.chess_pgn.proofs.SourceLemmas.{seek_broken}
use Rattle.chess_pgn.proofs.games.Games.go_on.Goals as goal

pub returns-in-None-clause-broken : goal.returns-in-None-clause-broken
returns-in-None-clause-broken g c =
    seek_broken g.R.Source.gives g.R.Source.failed c.args.self.now.text c.pass_to_section.new.self c.pass_to_section.result
    (subst (λ (t : AtHand g.row.R.Denot). IfErr c.pass_to_section.result (λ fault. SeekBreaks g.R.Source.gives g.R.Source.failed t c.pass_to_section.new.self fault))
    (ap (λ (x : Games g.row.R.Denot). x.text) c.self.view_is) c.pass_to_section.ensures.broken)
