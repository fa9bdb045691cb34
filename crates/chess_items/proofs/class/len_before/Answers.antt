use Rattle.chess_items.proofs.ClassLemmas.{found_run, whole_run}
use Rattle.chess_items.proofs.class.len_before.Goals as goal

pub returns-in-Some-clause-run : goal.returns-in-Some-clause-run
returns-in-Some-clause-run c = found_run c.args.stop c.args.bytes.now c.in-Some.at c.in-Some.ensures

pub returns-in-None-clause-run : goal.returns-in-None-clause-run
returns-in-None-clause-run c = whole_run c.args.stop c.args.bytes.now c.in-None.ensures
