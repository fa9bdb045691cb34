use Rattle.std.proofs.Common.{◌∙◌, sym, ap}
use Rattle.csv.specs.Writing.{escaped, fields_text, is_blank}
use Rattle.arbiter.specs.Collections.{header_text}
use Rattle.arbiter.proofs.judge.header.Goals as goal

pub returns-in-Csv : goal.returns-in-Csv
unfolding escaped fields_text is_blank
returns-in-Csv c = c.as_bytes.ensures.value ∙ sym (ap header_text c.in-Csv.is)
