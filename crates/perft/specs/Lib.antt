-- How many leaves the tree of legal moves has, and what is answered to the lines of the input.
pub mod Leaves
pub mod Answers
pub mod Lines
