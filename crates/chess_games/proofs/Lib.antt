-- Lemmas on games that are read and written, and on bytes with zero bytes put in.
pub mod FilteredLemmas
mod HeadLemmas
pub mod MarkedLemmas
mod SavingLemmas
