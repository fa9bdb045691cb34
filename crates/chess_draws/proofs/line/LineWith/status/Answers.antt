use Rattle.std.proofs.Common.{ap, ◌∙◌}
use Rattle.chess_types.specs.board.Lines.{last}
use Rattle.chess_draws.proofs.LineLemmas.{can_ask, here_last}
use Rattle.chess_draws.proofs.AnswerLemmas.{status_is}
use Rattle.chess_draws.proofs.line.LineWith.status.Goals as goal

pub status_at-requires : goal.status_at-requires
status_at-requires g c = can_ask c.self.invariant

pub returns-clause-value : goal.returns-clause-value
returns-clause-value g c =
    c.status_at.ensures.value
    ∙ status_is c.args.self.now.line c.self.inside.live.position c.count-count.result
    (here_last c.self.invariant.line c.self.view_is ∙ ap last c.count-count.ensures.as_before.line)
    c.count-count.ensures.value
