-- The words of the code's steps: why reading ends.
pub mod Leaving
