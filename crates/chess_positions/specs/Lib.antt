-- What rows of positions say, and how they are written. `Columns` has what a row has in each column, `Rows` the text of rows; `steps` has words of the code alone.
pub mod Columns
pub mod Rows
pub mod steps
