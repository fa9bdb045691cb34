use Rattle.std.proofs.Common.{◌≤◌, subst, sym}
use Rattle.chess_types.specs.board.Position.{PositionParts}
use Rattle.chess_cli.proofs.BeginLemmas.{start_clock, start_number}
use Rattle.chess_cli.proofs.board_command.machine.start_position.Goals as goal

pub returns-clause-clock : goal.returns-clause-clock
returns-clause-clock c = subst (λ (p : PositionParts). p.clock ≤ 99999) (sym c.start.ensures) start_clock

pub returns-clause-number : goal.returns-clause-number
returns-clause-number c = subst (λ (p : PositionParts). p.number ≤ 99999) (sym c.start.ensures) start_number
