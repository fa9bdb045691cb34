-- The words of the code's steps: where the men of the side to move might go, and what leaves their king unattacked.
pub mod Targets
pub mod Guarded
pub mod PawnCounts
pub mod Kinds
