-- What a part of a collection is, what is written of it, and what the pieces of a collection are. `steps` has words of the code alone.

pub mod Forms
pub mod Filtered
pub mod Parts
pub mod Pieces
pub mod Salvaged
pub mod steps
