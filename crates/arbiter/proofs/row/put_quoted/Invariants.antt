use Rattle.std.specs.Prelude.{◌≡◌, ◌++◌, ◌∷◌, [], flat_map, take}
use Rattle.arbiter.proofs.CsvLemmas.{doubled}
use Rattle.arbiter.proofs.row.put_quoted.Given as goal

-- the bytes so far
abbrev pub invariant-loop-byte : goal.invariant-loop-byte
invariant-loop-byte l = record { written : l.row.items ≡ (l.fn.row.items ++ 34 ∷ []) ++ flat_map doubled (take l.byte-index l.field) }
