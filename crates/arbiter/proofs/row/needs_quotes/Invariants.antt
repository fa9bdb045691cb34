use Rattle.std.specs.Prelude.{◌≡◌, false, take}
use Rattle.std.specs.List.{list_any}
use Rattle.csv.specs.Writing.{needs_byte}
use Rattle.arbiter.specs.Cells.{csv_lines}
use Rattle.arbiter.proofs.row.needs_quotes.Given as goal

-- none so far
abbrev pub invariant-loop-byte : goal.invariant-loop-byte
invariant-loop-byte l = record { none : list_any (needs_byte csv_lines) (take l.byte-index l.field) ≡ false }
