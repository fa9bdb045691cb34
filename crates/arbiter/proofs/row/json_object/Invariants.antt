use Rattle.std.specs.Prelude.{◌≡◌, ◌∷◌, [], flat_map, map, take}
use Rattle.json.specs.Token.{begin_object}
use Rattle.arbiter.specs.Cells.{member, name_and_value}
use Rattle.arbiter.proofs.row.json_object.Given as goal

-- the members so far
abbrev pub invariant-loop-cell : goal.invariant-loop-cell
invariant-loop-cell l = record {
  written : l.writer.tokens ≡ begin_object ∷ flat_map member (map name_and_value (take l.cell-index l.cells));
  empty : l.writer.before ≡ [];
}
