use Rattle.std.proofs.Common.{◌≡◌, length, sym, ap, subst, ◌∙◌, arith}
use Rattle.chess_types.specs.board.Position.{PositionParts, OpponentNotInCheck, IsWellFormed}
use Rattle.chess_draws.specs.LineParts.{LineParts}
use Rattle.chess_draws.proofs.LineLemmas.{here_last, here_clock, here_number, here_well_formed}
use Rattle.chess_draws.proofs.line.LineWith.position.Goals as goal

pub new-requires : goal.new-requires
new-requires g c = subst OpponentNotInCheck (sym (c.in-Ok.ensures.cases ∙ c.position.ensures.value)) (here_well_formed c.self.invariant.line).quiet

pub returns-clause-value : goal.returns-clause-value
returns-clause-value g c =
    c.new.ensures ∙ c.in-Ok.ensures.cases ∙ c.position.ensures.value ∙ here_last c.self.invariant.line c.self.view_is

pub returns-clause-counters : goal.returns-clause-counters
returns-clause-counters g c =
    let same : c.new.result ≡ c.self.inside.live.position = c.new.ensures ∙ c.in-Ok.ensures.cases ∙ c.position.ensures.value in
    let looked : length c.self.inside.looked.items ≡ c.args.self.now.looked = ap (λ (l : LineParts). l.looked) c.self.view_is in
    let clock : c.new.result.clock ≡ c.self.inside.live.position.clock = ap (λ (s : PositionParts). s.clock) same in
    let number : c.new.result.number ≡ c.self.inside.live.position.number = ap (λ (s : PositionParts). s.number) same in (
      omega (arith, clock, looked, here_clock c.self.invariant),
      omega (arith, number, looked, here_number c.self.invariant),
    )

pub returns-clause-well_formed : goal.returns-clause-well_formed
returns-clause-well_formed g c = subst IsWellFormed (here_last c.self.invariant.line c.self.view_is) (here_well_formed c.self.invariant.line)
