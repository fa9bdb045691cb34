-- What is seen of a position while moves are made and taken back, and of the records of moves. `steps` has words of the code alone.
pub mod Castling
pub mod Records
pub mod LiveParts
pub mod steps
