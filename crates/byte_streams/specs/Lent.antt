-- What is seen of a source and a sink over bytes that are lent, and what a call of each does.
--   Left         what a source still gives
--   is_due       the next call is the one that fails
--   given        how many bytes a read gives
--   Written      what a sink has taken
--   refusal_due  what the next call does, if it is the one that goes wrong
--   accepted     how many bytes a write takes
-- Both count the calls up to the one that goes wrong; after that one, all go well.
use Rattle.std.specs.Prelude.{ℕ, ◌-◌, ◌==◌, min, Bool, true, false, if◌then◌else◌, List, length, Option, Some, None, is_some}
use Rattle.byte_streams.specs.declared.write_failure.WriteFailure.{WriteFailure}
use Rattle.byte_streams.specs.declared.write_failure.WriteFailure.TheVariants.{Fails, TakesNothing}

-- the bytes that are left, the most that a read gives, how many reads go well before the one that fails, if one is to, and
-- whether a read has failed
pub record Left : Type 0 where
  pub left : List ℕ
  pub piece : ℕ
  pub good_reads : Option ℕ
  pub failed : Bool

-- the next call is the one that goes wrong
abbrev pub is_due : Option ℕ → Bool
is_due None = false
is_due (Some calls) = calls == 0

-- how many calls go well before that one, after a call
abbrev pub one_less : Option ℕ → Option ℕ
one_less None = None
one_less (Some calls) = if calls == 0 then None else Some (calls - 1)

-- into a buffer of so many bytes
abbrev pub given : Left → ℕ → ℕ
given s size = if is_due s.good_reads then 0 else min (length s.left) (min s.piece size)

-- the bytes taken so far, how many more have room, the most that a write takes, how many writes go well before the one that
-- goes wrong and what that one does, if one is to, and whether a write has failed or has taken none of some bytes
pub record Written : Type 0 where
  pub taken : List ℕ
  pub room : ℕ
  pub piece : ℕ
  pub refuses : Option (ℕ × WriteFailure)
  pub failed : Bool

-- what the next write does, if it is the one that goes wrong
abbrev pub refusal_due : Option (ℕ × WriteFailure) → Option WriteFailure
refusal_due None = None
refusal_due (Some one) = if one.0 == 0 then Some one.1 else None

-- which write goes wrong, after one more
abbrev pub one_write_less : Option (ℕ × WriteFailure) → Option (ℕ × WriteFailure)
one_write_less None = None
one_write_less (Some one) = if one.0 == 0 then None else Some (one.0 - 1, one.1)

-- the next write fails
abbrev pub is_failing : Option WriteFailure → Bool
is_failing None = false
is_failing (Some Fails) = true
is_failing (Some TakesNothing) = false

-- of so many bytes
abbrev pub accepted : Written → ℕ → ℕ
accepted s size = if is_some (refusal_due s.refuses) then 0 else min s.room (min s.piece size)
