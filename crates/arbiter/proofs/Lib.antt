-- Lemmas on cells, rows, numbers of moves, and reports.
pub mod CellLemmas
pub mod CsvLemmas
pub mod NumberLemmas
pub mod RowLemmas
