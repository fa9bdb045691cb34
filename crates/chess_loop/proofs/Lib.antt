-- Lemmas on lines, runs and writes.
pub mod LineLemmas
pub mod RunLemmas
pub mod SendingLemmas
pub mod FeedLemmas
pub mod EndLemmas
pub mod RunEndLemmas
