use Rattle.std.proofs.Common.{length, nat_lt, ap, ◌∙◌}
use Rattle.chess_types.specs.board.Position.{PositionParts}
use Rattle.chess_types.specs.board.Legal.{legal_moves}
use Rattle.chess_draws.proofs.LineLemmas.{can_ask, here_last}
use Rattle.chess_draws.proofs.line.LineWith.has_legal.Goals as goal

pub has_legal-requires : goal.has_legal-requires
has_legal-requires g c = can_ask c.self.invariant

pub returns-clause-value : goal.returns-clause-value
returns-clause-value g c =
    c.has_legal.ensures.value ∙ ap (λ (s : PositionParts). nat_lt 0 (length (legal_moves s))) (here_last c.self.invariant.line c.self.view_is)
