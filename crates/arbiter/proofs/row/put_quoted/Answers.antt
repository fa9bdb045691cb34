use Rattle.std.proofs.Common.{◌∙◌, arith}
use Rattle.arbiter.proofs.CsvLemmas.{quoted_is}
use Rattle.arbiter.proofs.row.put_quoted.Goals as goal

pub returns : goal.returns
returns c =
    c.in_ok-push-4.ensures.items ∙ quoted_is c.args.row.now.items c.args.field.now c.loop-byte.row.items c.loop-byte.byte-index
    (let test = c.loop-byte-test.false in let end = c.loop-byte.auto.byte-index-end in omega (arith, test, end)) c.loop-byte.invariant.written
