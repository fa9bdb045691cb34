-- Lemmas on the rows of a line.
pub mod MadeLemmas
pub mod RowLemmas
