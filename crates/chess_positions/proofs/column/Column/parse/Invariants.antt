use Rattle.std.specs.Prelude.{◌≡◌, bytes_eq, drop}
use Rattle.std.specs.List.{find}
use Rattle.chess_positions.specs.Columns.{all_columns, column_of, column_name}
use Rattle.chess_positions.proofs.column.Column.parse.Given as goal

-- none of the columns so far has the name
abbrev pub invariant-loop-column : goal.invariant-loop-column
invariant-loop-column l = record { none : column_of l.name ≡ find (λ column. bytes_eq l.name (column_name column)) (drop l.column-index all_columns) }
