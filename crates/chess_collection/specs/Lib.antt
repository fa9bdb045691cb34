-- What is at hand of a collection, and what a handler of games makes of it; what the tags of a text say that a game doesn't keep. `steps` has words of the code
-- alone.
pub mod Windows
pub mod Handling
pub mod Headings
pub mod steps
