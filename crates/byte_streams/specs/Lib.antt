-- What a reader must believe of bytes:
--   Words    the words in some bytes, and what separates them
--   Calls    the bytes that the calls of a source or a sink carry
--   Lent     what a source or a sink over bytes in memory does
--   Streams  what a source over a reader, or a sink over a writer, is
pub mod Words
pub mod Calls
pub mod Lent
pub mod Streams
