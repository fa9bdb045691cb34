use Rattle.std.proofs.Common.{ap, ◌∙◌}
use Rattle.chess_types.specs.board.Position.{PositionParts}
use Rattle.chess_san.specs.Writing.{san}
use Rattle.chess_draws.proofs.LineLemmas.{can_name, here_last}
use Rattle.chess_draws.proofs.line.LineWith.write_move.Goals as goal

pub write-requires : goal.write-requires
write-requires g c = can_name c.self.invariant c.self.view_is c.args.m c.requires.legal

pub returns-clause-value : goal.returns-clause-value
returns-clause-value g c = c.write.ensures.bytes ∙ ap (λ (p : PositionParts). san p c.args.m) (here_last c.self.invariant.line c.self.view_is)
