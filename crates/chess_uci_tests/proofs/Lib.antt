-- A lemma on the first of some roots.
pub mod FirstLemmas
