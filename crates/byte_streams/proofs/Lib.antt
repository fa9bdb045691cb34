pub mod WordLemmas
pub mod CallLemmas
