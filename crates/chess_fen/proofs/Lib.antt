pub mod RankLemmas
pub mod BoardLemmas
pub mod SetupLemmas
pub mod FieldLemmas
pub mod WriteLemmas
pub mod PartLemmas
pub mod PlacementLemmas
pub mod BackLemmas
