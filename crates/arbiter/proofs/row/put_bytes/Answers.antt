use Rattle.std.proofs.Common.{rules, sym}
use Rattle.arbiter.proofs.CellLemmas.{reads, stays}
use Rattle.arbiter.proofs.row.put_bytes.Goals as goal

pub returns-in-Ok : goal.returns-in-Ok
returns-in-Ok c = rw (stays c.args.text.now c.in-Ok.ensures.cases.1, sym c.in-Ok.ensures.cases.0) (search rules)

pub returns-in_ok-latin_1-in-Err : goal.returns-in_ok-latin_1-in-Err
returns-in_ok-latin_1-in-Err c = rw (reads c.args.text.now c.in-Err.ensures.cases.0) (search rules)
