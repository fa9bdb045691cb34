-- The words of the code's steps: the boards that a move goes through, and what is kept beside them.
pub mod Followed
pub mod Boards
pub mod Undo
pub mod WorkLaws
pub mod Homes
