-- Lemmas on the number of leaves.
pub mod LeafLemmas
pub mod LineLemmas
