-- The words of the code's steps: its commands, events and searches as those of the machine.
pub mod Commands
pub mod Searches
pub mod Places
pub mod StateCode
