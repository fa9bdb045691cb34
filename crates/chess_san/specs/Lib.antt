-- Moves in standard algebraic notation. What a reader has to believe: the forms of texts, which moves they name, and the text of a move;
-- `steps` has the words of the code's steps, which public contracts don't speak of.
pub mod Faults
pub mod Forms
pub mod Naming
pub mod Writing
pub mod steps
