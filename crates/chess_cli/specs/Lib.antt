-- The commands `board` and `uci` over lines: what a line asks and is answered, and how a run over a source and a sink ends. `steps` has words of the code alone.
pub use Rattle.chess_loop.specs.InputLines
pub use Rattle.chess_loop.specs.Runs
pub use Rattle.chess_loop.specs.RunEnds
pub mod Requests
pub mod Refusals
pub mod Gaps
pub mod Numbers
pub mod Outcomes
pub mod Answers
pub mod Loads
pub mod TimedSessions
pub mod Endings
pub mod Collections
pub mod Laws
pub mod ExitStatus
pub mod steps
