-- Definitions for the code alone.
pub mod Tallies
