-- What is repaired in a text.
pub mod Runs
pub mod Words
pub mod Moves
pub mod Tags
pub mod Fens
pub mod Ends
pub mod Repairs
pub mod Spelled
pub mod Letters
