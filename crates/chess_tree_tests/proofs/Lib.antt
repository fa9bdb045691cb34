-- Lemmas on the position at the cursor.
pub mod ReplayLemmas
