-- What a reader must believe: the nodes of a game in order, and a walk with the moves made. `steps` has words of the code alone.
pub mod Order
pub mod Replays
pub mod steps
