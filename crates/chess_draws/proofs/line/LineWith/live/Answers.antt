use Rattle.std.proofs.Common.{subst}
use Rattle.chess_types.specs.board.Position.{IsWellFormed}
use Rattle.chess_draws.proofs.LineLemmas.{here_last, here_well_formed}
use Rattle.chess_draws.proofs.line.LineWith.live.Goals as goal

pub returns-clause-position : goal.returns-clause-position
returns-clause-position g c = here_last c.self.invariant.line c.self.view_is

pub returns-clause-well_formed : goal.returns-clause-well_formed
returns-clause-well_formed g c = subst IsWellFormed (here_last c.self.invariant.line c.self.view_is) (here_well_formed c.self.invariant.line)
