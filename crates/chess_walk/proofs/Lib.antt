-- Lemmas on what a walk keeps, on the line of a replay, and on the node at a path.
pub mod TodoLemmas
pub mod ReplayLemmas
pub mod NodeLemmas
