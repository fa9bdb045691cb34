-- Lemmas on the main line, and on what is kept while its plies are gone over.
pub mod FollowLemmas
pub mod TallyLemmas
pub mod UnderwayLemmas
