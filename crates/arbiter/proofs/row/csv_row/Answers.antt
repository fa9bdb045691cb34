use Rattle.std.proofs.Common.{◌∙◌}
use Rattle.arbiter.proofs.CsvLemmas.{written_is}
use Rattle.arbiter.proofs.row.csv_row.Goals as goal

pub returns : goal.returns
returns c =
    c.in_ok-extend_from_slice.ensures.items ∙ written_is c.args.cells.now _ c.in_ok-row.row.items c.put_csv.new.row.items c.put_others.new.row.items c.requires c.in_ok-row.ensures.items c.in_ok-put_csv.ensures c.in_ok-put_others.ensures
