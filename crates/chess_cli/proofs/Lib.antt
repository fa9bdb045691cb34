-- Lemmas on numbers, paths, answers, sessions and collections of games.
pub mod EndedLemmas
pub mod BeginLemmas
pub mod PathLemmas
pub mod PathLaws
pub mod NumberLemmas
pub mod TextLemmas
pub mod ListLemmas
pub mod AnswerLemmas
pub mod PlaceLemmas
pub mod GotoLemmas
pub mod EventLemmas
pub mod WorkLemmas
pub mod TimedSessionLemmas
pub mod CollectionLemmas
pub mod LentLemmas
pub mod LentClockLemmas
pub mod AgainLemmas
