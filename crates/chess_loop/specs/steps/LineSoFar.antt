-- A line as far as it is read: how many bytes it has, and which of them are kept.
use Rattle.std.specs.Prelude.{ℕ, List}

-- what is kept of a line that has not ended
pub record LineSoFar : Type 0 where
  -- at most one over the limit
  pub seen : ℕ
  pub kept : List ℕ
