-- The words of the code's steps: what a line keeps of each position and of each move.
pub mod KeptPlies
pub mod RepetitionKeys
pub mod Plies
pub mod LookBack
