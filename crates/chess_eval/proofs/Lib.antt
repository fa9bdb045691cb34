pub mod Sums
pub mod Tables
pub mod SmallWorths
pub mod Evaluations
pub mod StartSums
pub mod Tapers
pub mod Armies
pub mod Mirrors
