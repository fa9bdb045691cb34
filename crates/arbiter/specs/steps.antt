-- Definitions for the code alone.
pub mod Reports
pub mod Rosters
