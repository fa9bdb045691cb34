-- A handle of a flag, or nothing. What the flag is, no clause says: another thread may set it at any time.
--   IsKept       a handle is put there, or there is no memory, and all is as before
--   SharesFrom   the same of another handle of a flag, if there is one
--   set_code     the status of a flag that is set or cleared
use Rattle.std.specs.Prelude.{◌≡◌, ◌⊎◌, ℕ, Option, Some, None}
use Rattle.chess_bindings.specs.Codes.{empty_slot, no_memory, ok}

-- there is a handle, or what there was
abbrev pub IsKept : ℕ → (old new : Option (Unit {0})) → Type 0
IsKept code old new = ((code ≡ ok) × (new ≡ Some tt)) ⊎ ((code ≡ no_memory) × (new ≡ old))

-- from a handle
abbrev pub SharesFrom : Option (Unit {0}) → ℕ → (old new : Option (Unit {0})) → Type 0
SharesFrom None code old new = (code ≡ empty_slot) × (new ≡ old)
SharesFrom (Some _) code old new = IsKept code old new

-- of a handle
abbrev pub set_code : Option (Unit {0}) → ℕ
set_code None = empty_slot
set_code (Some _) = ok
