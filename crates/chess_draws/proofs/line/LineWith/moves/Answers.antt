use Rattle.std.proofs.Common.{ap, ◌∙◌}
use Rattle.chess_types.specs.board.Legal.{legal_moves}
use Rattle.chess_draws.proofs.LineLemmas.{can_ask, here_last}
use Rattle.chess_draws.proofs.line.LineWith.moves.Goals as goal

pub moves-requires : goal.moves-requires
moves-requires g c = can_ask c.self.invariant

pub returns-clause-listed : goal.returns-clause-listed
returns-clause-listed g c =
    c.moves.ensures.listed ∙ ap legal_moves (here_last c.self.invariant.line c.self.view_is)
