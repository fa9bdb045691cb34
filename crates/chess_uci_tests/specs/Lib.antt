-- What the lines of the tests ask for.
pub mod Named
