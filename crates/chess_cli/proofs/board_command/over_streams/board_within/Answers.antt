use Rattle.std.proofs.Common.{sym, ◌∙◌}
use Rattle.chess_cli.specs.Answers.{Answers}
use Rattle.chess_loop.specs.declared.driver.RunEnd.TheVariants.{Good, Memory, ReadFault, WriteFault}
use Rattle.chess_cli.proofs.EndedLemmas.{no_input, same_end}
use Rattle.chess_loop.proofs.RunEndLemmas.{never_over, unread_ends, whole_ends}
use Rattle.chess_cli.proofs.board_command.over_streams.board_within.Goals as goal

pub returns : goal.returns
returns g c =
    record {
      good = λ is. (
        c.run.new.engine,
        rw c.in-Ok.ensures at (never_over Answers c.in-Ok.board g.R.Source g.W.Sink c.run.new.engine
            c.args.reader.now c.run.new.reader c.args.writer.now c.run.new.writer (c.run.ensures.good (same_end c.run.result Good (sym c.from.ensures ∙ is)))),
      );
      read_fault = λ is. (
        c.run.new.engine,
        rw c.in-Ok.ensures at (unread_ends Answers c.in-Ok.board g.R.Source g.W.Sink c.args.reads c.run.new.engine
            c.args.reader.now c.run.new.reader c.args.writer.now c.run.new.writer (c.run.ensures.read_fault (same_end c.run.result ReadFault (sym c.from.ensures ∙ is)))),
      );
      write_fault = λ is. (
        c.run.new.engine,
        rw c.in-Ok.ensures at (whole_ends Answers c.in-Ok.board g.R.Source g.W.Sink c.run.new.engine
            c.args.reader.now c.run.new.reader c.args.writer.now c.run.new.writer (c.run.ensures.write_fault (same_end c.run.result WriteFault (sym c.from.ensures ∙ is)))),
      );
      memory = λ is. (let kept = c.run.ensures.memory (same_end c.run.result Memory (sym c.from.ensures ∙ is)) in (kept.1, kept.2));
      input = λ fault is. no_input c.run.result fault (sym c.from.ensures ∙ is);
    }
