use Rattle.perft.specs.Lines.{AnswersAlone}
use Rattle.chess_loop.proofs.RunEndLemmas.{never_over, unread_ends, whole_ends}
use Rattle.perft.proofs.counter.count_leaves.Goals as goal

pub returns : goal.returns
returns g c =
    let last = c.run.new.engine in
    record {
      good = λ is. (
        _,
        last,
        never_over AnswersAlone _ g.R.Source g.W.Sink last c.args.reader.now c.run.new.reader c.args.writer.now c.run.new.writer (c.run.ensures.good is),
      );
      read_fault = λ is. (
        _,
        last,
        unread_ends AnswersAlone _ g.R.Source g.W.Sink 1099511627776 last c.args.reader.now c.run.new.reader c.args.writer.now c.run.new.writer (c.run.ensures.read_fault is),
      );
      write_fault = λ is. (
        _,
        last,
        whole_ends AnswersAlone _ g.R.Source g.W.Sink last c.args.reader.now c.run.new.reader c.args.writer.now c.run.new.writer (c.run.ensures.write_fault is),
      );
      memory = λ is. (let kept = c.run.ensures.memory is in (kept.1, kept.2));
    }
