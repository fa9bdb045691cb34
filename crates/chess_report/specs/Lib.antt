-- What a report says of a game. `MainLine` has the game's line and counting over its plies, `Findings` each field; `steps` has words of the code alone.
pub mod MainLine
pub mod Findings
pub mod steps
