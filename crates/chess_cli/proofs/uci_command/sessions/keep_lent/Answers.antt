use Rattle.chess_cli.proofs.LentClockLemmas.{ends_owned, still_lent}
use Rattle.chess_cli.proofs.uci_command.sessions.keep_lent.Goals as goal

pub returns : goal.returns
returns g c = record {
  same =
      still_lent (λ s. s.clock.now) (λ s. s.clock.ghost_name) g.C.Clock.reads g.R.Source g.W.Sink c.args.session.now c.uci_with.new.session c.args.reader.now c.uci_with.new.reader
      c.args.writer.now c.uci_with.new.writer c.uci_with.result c.uci_with.ensures;
  ends =
      ends_owned (λ s. s.clock.now) (λ s. s.clock.ghost_name) g.C.Clock.reads g.R.Source g.W.Sink c.args.session.now c.uci_with.new.session c.args.reader.now c.uci_with.new.reader
      c.args.writer.now c.uci_with.new.writer c.uci_with.result c.uci_with.ensures;
}
