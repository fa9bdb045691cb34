-- Lemmas on tags looked up by their names once one is set, and on a line put into the moves of a tree.
pub mod SetLemmas
pub mod JoinLemmas
