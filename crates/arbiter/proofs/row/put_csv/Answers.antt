use Rattle.std.proofs.Common.{rules, subst, ap}
use Rattle.std.specs.Str.{IsUtf8}
use Rattle.arbiter.proofs.CellLemmas.{stays}
use Rattle.arbiter.specs.Cells.{value_of}
use Rattle.arbiter.proofs.row.put_csv.Goals as goal

pub returns-in-Word : goal.returns-in-Word
returns-in-Word c = rw (ap value_of c.in-Word.is, stays c.in-Word.word.now (subst (λ t. IsUtf8 t) c.as_bytes-in-Word.ensures.value c.as_bytes-in-Word.ensures.utf8)) (search rules)
