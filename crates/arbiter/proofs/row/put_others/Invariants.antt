use Rattle.std.specs.Prelude.{◌≡◌, ◌++◌, flat_map, map, take}
use Rattle.arbiter.specs.Cells.{behind_comma, name_and_value}
use Rattle.arbiter.proofs.row.put_others.Given as goal

-- the fields so far
abbrev pub invariant-loop-cell : goal.invariant-loop-cell
invariant-loop-cell l = record { written : l.row.items ≡ l.fn.row.items ++ flat_map behind_comma (map name_and_value (take l.cell-index l.cells)) }
