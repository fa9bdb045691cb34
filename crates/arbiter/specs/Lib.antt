-- What a row says of a game, how it is written, and which rows a run writes. `steps` has words of the code alone.
pub mod Cells
pub mod Rows
pub mod Collections
pub mod steps
