use Rattle.std.specs.Prelude.{◌≡◌, ◌++◌, take}
use Rattle.chess_draws.specs.LineParts.{IsAsBefore}
use Rattle.chess_positions.specs.Rows.{cell_text, after_commas}
use Rattle.chess_positions.proofs.row.put_more.Given as goal

-- the cells so far
abbrev pub invariant-loop-column : goal.invariant-loop-column
invariant-loop-column g l = record {
  written : l.out.items ≡ l.fn.out.items ++ after_commas (cell_text l.format l.of.number l.of.outcome l.fn.line.line) (take l.column-index l.columns);
  as_before : IsAsBefore l.fn.line l.line;
}
