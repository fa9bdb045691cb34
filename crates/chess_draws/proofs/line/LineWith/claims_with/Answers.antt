use Rattle.std.proofs.Common.{◌≡◌, Some, ap, ◌∙◌}
use Rattle.chess_types.specs.declared.board.outcome.Claims.{Claims}
use Rattle.chess_types.specs.board.Legal.{is_legal}
use Rattle.chess_types.specs.board.Position.{PositionParts}
use Rattle.chess_types.specs.board.Lines.{Line, last, extended}
use Rattle.chess_types.specs.board.Repetition.{repetitions}
use Rattle.chess_types.specs.board.Outcome.{status}
use Rattle.chess_draws.specs.LineParts.{LineParts}
use Rattle.chess_draws.proofs.LineLemmas.{can_ask, here_last, legal_last}
use Rattle.chess_draws.proofs.AnswerLemmas.{claims_with_is, claims_with_none}
use Rattle.chess_draws.proofs.line.LineWith.claims_with.Goals as goal

pub is_legal-requires : goal.is_legal-requires
is_legal-requires g c = can_ask c.self.invariant

pub returns-then-not-is_legal-clause-value : goal.returns-then-not-is_legal-clause-value
returns-then-not-is_legal-clause-value g c =
    claims_with_none c.args.self.now.line c.args.m
    (legal_last c.self.invariant.line c.self.view_is c.args.m c.is_legal.ensures.value c.if-not-is_legal.true)

pub look-requires-clause-legal : goal.look-requires-clause-legal
look-requires-clause-legal g c =
    ap (λ (l : Line). is_legal (last l) c.args.m) (c.status-status.ensures.as_before.line ∙ ap (λ (l : LineParts). l.line) c.self.view_is)
    ∙ legal_last c.self.invariant.line c.self.view_is c.args.m c.is_legal.ensures.value c.if-not-is_legal.false

pub returns-clause-value : goal.returns-clause-value
returns-clause-value g c =
    let same : c.status-status.new.self.line ≡ c.args.self.now.line =
    c.status-status.ensures.as_before.line ∙ ap (λ (l : LineParts). l.line) c.self.view_is in
    let longer : c.look.new.self.line ≡ extended c.args.self.now.line c.args.m =
    c.look.ensures.line ∙ ap (λ (l : Line). extended l c.args.m) same in
    ap (λ (k : Claims). Some k) c.claims_at.ensures
    ∙ claims_with_is c.args.self.now.line c.args.m c.status-status.result c.count-count.result c.behind-self.inside.clock
    (legal_last c.self.invariant.line c.self.view_is c.args.m c.is_legal.ensures.value c.if-not-is_legal.false)
    (c.status-status.ensures.value ∙ ap (λ (l : LineParts). status l.line) c.self.view_is)
    (c.count-count.ensures.value ∙ ap repetitions longer)
    (ap (λ (s : PositionParts). s.clock)
    (c.behind-self.view_is ∙ c.position.ensures.value ∙ here_last c.self-2.invariant.line c.self-2.view_is
    ∙ ap last (c.count-count.ensures.as_before.line ∙ longer)))
