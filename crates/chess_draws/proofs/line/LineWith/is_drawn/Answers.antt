use Rattle.std.proofs.Common.{ap, ◌∙◌}
use Rattle.chess_types.specs.board.Lines.{last}
use Rattle.chess_draws.proofs.LineLemmas.{here_last}
use Rattle.chess_draws.proofs.AnswerLemmas.{drawn_is}
use Rattle.chess_draws.proofs.line.LineWith.is_drawn.Goals as goal

pub returns-clause-value : goal.returns-clause-value
returns-clause-value g c =
    c.is_drawn_at.ensures
    ∙ drawn_is c.args.self.now.line _ c.count-count.result c.args.claims
    (c.position.ensures.value ∙ here_last c.self.invariant.line c.self.view_is ∙ ap last c.count-count.ensures.as_before.line)
    c.count-count.ensures.value
