use Rattle.std.proofs.Common.{rules, sym}
use Rattle.arbiter.proofs.CellLemmas.{reads, stays}
use Rattle.arbiter.proofs.row.put_text.Goals as goal

pub returns-in-Ok-clause-tokens : goal.returns-in-Ok-clause-tokens
returns-in-Ok-clause-tokens c =
    rw (stays c.args.text.now c.in-Ok.ensures.cases.1, sym c.in-Ok.ensures.cases.0) (search rules)

pub returns-in_ok-latin_1-in-Err-clause-tokens : goal.returns-in_ok-latin_1-in-Err-clause-tokens
returns-in_ok-latin_1-in-Err-clause-tokens c =
    rw (reads c.args.text.now c.in-Err.ensures.cases.0) (search rules)
