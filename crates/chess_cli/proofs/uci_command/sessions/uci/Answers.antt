use Rattle.std.proofs.Common.{rules}
use Rattle.chess_cli.specs.steps.Driving.{with_clock}
use Rattle.chess_cli.proofs.uci_command.sessions.uci.Goals as goal

pub returns : goal.returns
returns g c = (with_clock c.keep_lent-ended.new.session.clock.clock.now c.keep_lent-ended.new.session, search rules, rw c.new-session.ensures at c.keep_lent-ended.ensures.ends)
