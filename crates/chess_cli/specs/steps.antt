-- The words of the code's steps: what the board's code hands on.
pub mod Commands
pub mod Replies
pub mod Lists
pub mod Pieces
pub mod Driving
pub mod Collecting
