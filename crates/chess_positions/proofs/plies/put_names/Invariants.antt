use Rattle.std.specs.Prelude.{◌≡◌, ◌++◌, take}
use Rattle.chess_positions.specs.Columns.{column_name}
use Rattle.chess_positions.specs.Rows.{after_commas}
use Rattle.chess_positions.proofs.plies.put_names.Given as goal

-- the names so far
abbrev pub invariant-loop-column : goal.invariant-loop-column
invariant-loop-column g l = record { written : l.out.items ≡ l.fn.out.items ++ after_commas column_name (take l.column-index l.columns) }
