-- The loop over lines: how bytes are cut into lines, runs of a handler over them, and how a run over a source and a sink ends. `steps` has words of
-- the code alone.
pub mod InputLines
pub mod Runs
pub mod RunEnds
pub mod steps
