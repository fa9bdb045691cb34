use Rattle.std.proofs.Common.{◌∙◌, ap, sym, option_map}
use Rattle.chess_pgn.proofs.KnownLemmas.{known_here, line_before, line_none}
use Rattle.chess_pgn.proofs.texts.Texts.before.Goals as goal

pub returns-in-Some-clause-line : goal.returns-in-Some-clause-line
returns-in-Some-clause-line g c =
    let k = c.in-Some.known.now in
    line_before c.args.self.now c.args.place k
    (known_here c.self.inside.known.items c.args.self.now c.args.place k c.self.view_is c.self.invariant (sym c.at.ensures ∙ ap (option_map (λ k. k.now)) c.in-Some.is))

pub returns-in-Some-clause-within : goal.returns-in-Some-clause-within
returns-in-Some-clause-within g c =
    let k = c.in-Some.known.now in
    (known_here c.self.inside.known.items c.args.self.now c.args.place k c.self.view_is c.self.invariant (sym c.at.ensures ∙ ap (option_map (λ k. k.now)) c.in-Some.is)).before

pub returns-in-None-clause-line : goal.returns-in-None-clause-line
returns-in-None-clause-line g c = line_none c.args.self.now c.args.place (sym c.at.ensures ∙ ap (option_map (λ k. k.now)) c.in-None.is)
