-- Lemmas on the lines that words name, on searches that go on, and on lists of events.
pub mod TableLemmas
pub mod PlaceLemmas
pub mod GoingLemmas
mod CountLemmas
mod CauseLemmas
pub mod RunLemmas
pub mod KeptLemmas
pub mod StaysLemmas
