-- The words of the code's steps: what is kept of the nodes to come, and where the line is. No public contract speaks of them.
pub mod Code
pub mod Todos
pub mod Lines
pub mod Shown
