use Rattle.std.proofs.Common.{ap, ◌∙◌}
use Rattle.chess_types.specs.board.Legal.{legal_moves}
use Rattle.chess_draws.proofs.LineLemmas.{can_ask, here_last}
use Rattle.chess_draws.proofs.line.LineWith.moves_into.Goals as goal

pub moves_into-requires : goal.moves_into-requires
moves_into-requires g c = can_ask c.self.invariant

pub returns-clause-listed : goal.returns-clause-listed
returns-clause-listed g c =
    c.moves_into.ensures.listed ∙ ap legal_moves (here_last c.self.invariant.line c.self.view_is)
