use Rattle.std.proofs.Common.{ap, ◌∙◌}
use Rattle.chess_types.specs.board.Position.{PositionParts}
use Rattle.chess_types.specs.board.Legal.{is_legal}
use Rattle.chess_draws.proofs.LineLemmas.{can_ask, here_last}
use Rattle.chess_draws.proofs.line.LineWith.is_legal.Goals as goal

pub is_legal-requires : goal.is_legal-requires
is_legal-requires g c = can_ask c.self.invariant

pub returns-clause-value : goal.returns-clause-value
returns-clause-value g c =
    c.is_legal.ensures.value ∙ ap (λ (s : PositionParts). is_legal s c.args.m) (here_last c.self.invariant.line c.self.view_is)
