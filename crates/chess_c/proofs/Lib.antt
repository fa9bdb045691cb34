pub mod CallLemmas
pub mod PutLemmas
pub mod SearchLemmas
pub mod WordLemmas
