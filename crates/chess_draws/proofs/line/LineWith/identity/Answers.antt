use Rattle.std.proofs.Common.{◌∙◌, ap}
use Rattle.chess_fen.specs.Writing.{four_fields, identity}
use Rattle.chess_draws.proofs.LineLemmas.{here_last}
use Rattle.chess_draws.proofs.line.LineWith.identity.Goals as goal

pub returns : goal.returns
returns g c =
    let at = c.position.ensures.value in
    let target = c.self.invariant.line.here_is.target in
    c.write_fields.ensures.bytes ∙ (λ i. four_fields (at i) (target i)) ∙ ap identity (here_last c.self.invariant.line c.self.view_is)
