use Rattle.std.proofs.Common.{◌≡◌, Some, ap, sym, ◌∙◌}
use Rattle.chess_types.specs.declared.board.man.Colour.{Colour}
use Rattle.chess_types.specs.board.Lines.{last}
use Rattle.chess_types.specs.board.Men.{opponent}
use Rattle.chess_types.specs.board.Position.{PositionParts}
use Rattle.chess_draws.proofs.AnswerLemmas.{winner_is}
use Rattle.chess_draws.proofs.LineLemmas.{here_last}
use Rattle.chess_draws.proofs.line.LineWith.winner.Goals as goal

pub returns-clause-value : goal.returns-clause-value
returns-clause-value g c =
    let side : c.behind-self.inside.side ≡ (last c.args.self.now.line).side =
    ap (λ (s : PositionParts). s.side)
    (c.behind-self.view_is ∙ c.position.ensures.value ∙ here_last c.self.invariant.line c.self.view_is ∙ ap last c.has_legal.ensures.as_before.line) in
    ap (λ (colour : Colour). Some colour) (c.opponent.ensures ∙ ap opponent side)
    ∙ sym
    (winner_is (last c.args.self.now.line) c.has_legal.result c.in_check.result c.has_legal.ensures.value c.in_check.ensures c.if-has_legal.false
    c.if-not-in_check.false)
