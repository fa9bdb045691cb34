use Rattle.std.proofs.Common.{arith}
use Rattle.chess_fen.proofs.FieldLemmas.{no_digits, no_text, counter_read, counter_over, counter_bad}
use Rattle.chess_fen.proofs.counters.read_counter.Goals as goal

pub returns-then-not-are_digits : goal.returns-then-not-are_digits
returns-then-not-are_digits c = no_digits c.args.field.now (cc)

pub returns-in_default : goal.returns-in_default
returns-in_default c = no_text c.args.field.now (cc) c.in_default.ensures.cases.0

pub returns-in_default-parse : goal.returns-in_default-parse
returns-in_default-parse c =
    let parsed = rw c.in-Ok.ensures.cases.0 at c.parse.ensures.value.0 in
    counter_bad c.args.field.now c.parse.result (cc) parsed c.in_default-parse.field-0 c.in_default-parse.is

pub returns-then-value-gt-MOST : goal.returns-then-value-gt-MOST
returns-then-value-gt-MOST c =
    let parsed = rw c.in-Ok.ensures.cases.0 at c.parse.ensures.value.0 in
    counter_over c.args.field.now c.parse.result (cc) parsed c.in-Ok-parse.value c.in-Ok-parse.is (omega arith)

pub returns : goal.returns
returns c =
    let parsed = rw c.in-Ok.ensures.cases.0 at c.parse.ensures.value.0 in
    counter_read c.args.field.now c.parse.result (cc) parsed c.in-Ok-parse.value c.in-Ok-parse.is (omega arith)
