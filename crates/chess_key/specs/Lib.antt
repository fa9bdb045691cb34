-- Keys of boards.
pub mod Keys
