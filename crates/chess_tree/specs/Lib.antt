-- What a reader must believe: what a game tree is, its edits, where a move leads, and which trees are well formed. `steps` has words of the code alone.
pub mod Faults
pub mod Forest
pub mod Edits
pub mod Comments
pub mod GameTree
pub mod WellFormed
pub mod CursorLine
pub mod Calls
pub mod Plays
pub mod Undo
pub mod steps
