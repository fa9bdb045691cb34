-- The words of the code's steps: lines that come in pieces, and texts on their way to the sink.
pub mod LineSoFar
pub mod Sending
pub mod Reads
pub mod Readings
