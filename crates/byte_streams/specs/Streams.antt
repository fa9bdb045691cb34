-- What is seen of a source over a reader of std's, and of a sink over a writer.
use Rattle.std.specs.Prelude.{Bool}

-- the reader or writer, and whether a call has failed
pub record Stream (S : Type 0) : Type 0 where
  pub inner : S
  pub failed : Bool
