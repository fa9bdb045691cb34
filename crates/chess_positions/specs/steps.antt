-- Definitions for the code alone.
pub mod Made
