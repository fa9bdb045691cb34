-- What men are worth, the evaluation of a board, and a board seen from the other side; below `steps`, words of the code's steps.
pub mod Worth
pub mod Evaluation
pub mod Mirror
pub mod steps
