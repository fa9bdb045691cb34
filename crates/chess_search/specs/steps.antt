-- The words of the code's steps: what a search in a window may answer, the order in which moves are tried, and what is known before the last of them, and how many positions it asks for.
pub mod Windows
pub mod Order
pub mod Frontiers
pub mod Asking
