pub mod Xors
pub mod Somewhere
