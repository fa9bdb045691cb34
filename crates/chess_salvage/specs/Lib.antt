-- What a game that is salvaged is read from, and what comes after the last one.
pub mod Salvaging
pub mod Endings
