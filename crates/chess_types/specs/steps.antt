-- The words of the code's steps: what is kept beside a board's cells, and of a square or a promotion in one byte; tuples and words by which proofs
-- tell men, positions, lines and sets of squares apart, with the laws that a model needs of them.
pub mod ManCode
pub mod StateCode
pub mod LineCode
pub mod SetWords
pub mod SetLaws
pub mod SameLaws
pub mod Marks
pub mod KeptMoves
pub mod KeptSets
