-- Polyglot's opening books: the key of a position, and what an entry says.
pub mod Numbers
pub mod Keys
pub mod Books
