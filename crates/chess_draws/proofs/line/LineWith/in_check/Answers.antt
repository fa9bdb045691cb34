use Rattle.std.proofs.Common.{ap, ◌∙◌}
use Rattle.chess_types.specs.board.Position.{PositionParts, man_on}
use Rattle.chess_types.specs.board.Attack.{in_check}
use Rattle.chess_draws.proofs.LineLemmas.{here_last}
use Rattle.chess_draws.proofs.line.LineWith.in_check.Goals as goal

pub returns : goal.returns
returns g c = c.in_check.ensures ∙ ap (λ (s : PositionParts). in_check (man_on s) s.side) (here_last c.self.invariant.line c.self.view_is)
