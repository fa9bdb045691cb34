pub mod Sums
pub mod KeyLaws
