-- Lemmas on lines: which positions are the same, which targets count, what the plies say, what holds of a line, and what is answered
-- of it.
pub mod RepetitionKeyLemmas
pub mod SetLemmas
pub mod BackLemmas
pub mod DeadLemmas
pub mod TargetLemmas
pub mod SameLemmas
pub mod IdentityLemmas
pub mod PlyLemmas
pub mod LineLemmas
pub mod Weights
pub mod Repeats
pub mod LookBack
pub mod TrackLemmas
pub mod AnswerLemmas
pub mod FarLemmas
