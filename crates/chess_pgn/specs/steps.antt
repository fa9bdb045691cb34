-- Definitions for the code's own steps: no other definition rests on them.
pub mod Hanging
pub mod Elements
pub mod Readings
pub mod ReaderCode
pub mod Laying
pub mod Adding
pub mod Tasks
pub mod TaskCode
pub mod GameCode
pub mod OtherCode
pub mod HeaderCode
pub mod Next
pub mod GameAt
pub mod Unmoved
pub mod KnownTexts
pub mod Spelling
pub mod Following
