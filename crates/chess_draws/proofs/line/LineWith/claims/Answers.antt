use Rattle.std.proofs.Common.{◌≡◌, ap, ◌∙◌}
use Rattle.chess_types.specs.board.Position.{PositionParts}
use Rattle.chess_types.specs.board.Lines.{last}
use Rattle.chess_draws.proofs.LineLemmas.{can_ask, here_last}
use Rattle.chess_draws.proofs.AnswerLemmas.{status_is, claims_is}
use Rattle.chess_draws.proofs.line.LineWith.claims.Goals as goal

pub status_at-status-requires : goal.status_at-status-requires
status_at-status-requires g c = can_ask c.self.invariant

pub returns-clause-value : goal.returns-clause-value
returns-clause-value g c =
    let here : c.self.inside.live.position ≡ last c.args.self.now.line =
    here_last c.self.invariant.line c.self.view_is ∙ ap last c.count-count.ensures.as_before.line in
    c.claims_at.ensures
    ∙ claims_is c.args.self.now.line c.status_at-status.result c.count-count.result c.behind-self.inside.clock
    (c.status_at-status.ensures.value ∙ status_is c.args.self.now.line c.self.inside.live.position c.count-count.result here c.count-count.ensures.value)
    c.count-count.ensures.value
    (ap (λ (s : PositionParts). s.clock) (c.behind-self.view_is ∙ c.position.ensures.value ∙ c.status_at-status.ensures.position ∙ here))
