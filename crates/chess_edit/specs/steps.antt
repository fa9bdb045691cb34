-- Definitions for the code's own steps: no other definition rests on them.
pub mod Branches
