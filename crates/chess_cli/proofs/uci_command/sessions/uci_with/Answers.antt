use Rattle.std.proofs.Common.{sym, ◌∙◌}
use Rattle.chess_loop.specs.declared.driver.RunEnd.TheVariants.{Good, Memory, ReadFault, WriteFault}
use Rattle.chess_cli.proofs.EndedLemmas.{no_input, same_end}
use Rattle.chess_cli.proofs.uci_command.sessions.uci_with.Goals as goal

pub returns : goal.returns
returns g c = record {
  good = λ is. c.run.ensures.good (same_end c.run.result Good (sym c.from.ensures ∙ is));
  read_fault = λ is. c.run.ensures.read_fault (same_end c.run.result ReadFault (sym c.from.ensures ∙ is));
  write_fault = λ is. c.run.ensures.write_fault (same_end c.run.result WriteFault (sym c.from.ensures ∙ is));
  memory = λ is. c.run.ensures.memory (same_end c.run.result Memory (sym c.from.ensures ∙ is));
  input = λ fault is. no_input c.run.result fault (sym c.from.ensures ∙ is);
}
