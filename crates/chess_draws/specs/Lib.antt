-- What contracts see of a line, and what its calls answer. `steps` has words of the code alone.
pub mod Faults
pub mod Draws
pub mod LineParts
pub mod Pushes
pub mod steps
