-- What a FEN says, and which fault a text that is none has.
pub mod Ranks
pub mod Faults
pub mod Reading
pub mod Writing
