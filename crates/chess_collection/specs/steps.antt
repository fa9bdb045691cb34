-- Definitions for the code alone.
pub mod Going
pub mod Finding
