-- The notes of a tree's nodes, kept up to the last node that was given some.
--   noted_in     what is noted at a number
--   IsNotedAt    it is that at one number, and as before at the others
use Rattle.std.specs.Prelude.{◌≡◌, ℕ, List, get_or}
use mathlib.Core.Logic.{◌≢◌}
use Rattle.chess_tree.specs.steps.Rooted.{Noted, no_notes}

-- nothing, past the end of the list
abbrev pub noted_in : List Noted → ℕ → Noted
noted_in notes j = get_or notes j no_notes

-- from one to another
pub record IsNotedAt (old new : ℕ → Noted) (i : ℕ) (n : Noted) : Type 0 where
  pub there : new i ≡ n
  pub others : (j : ℕ) → j ≢ i → new j ≡ old j
