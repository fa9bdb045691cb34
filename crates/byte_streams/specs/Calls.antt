-- What calls of a source or a sink carry, one after another.
--   carried      the bytes that one call carried
--   takes_none   a write of some bytes that took none, or failed
--   Calls        calls lead from one state to another, and carry one piece each
--   Carries      calls lead from one state to another, and carry these bytes together
use Rattle.std.specs.Prelude.{◌≡◌, ℕ, Bool, true, ◌&&◌, ◌==◌, nat_lt, List, [], ◌∷◌, ◌++◌, take, length, Result, Ok, Err}

-- the bytes of all pieces
abbrev pub joined : List (List ℕ) → List ℕ
joined [] = []
joined (piece ∷ pieces) = piece ++ joined pieces

-- calls one after another, each with its bytes
abbrev pub Calls : {S : Type 0} → (S → List ℕ → S → Type 0) → S → List (List ℕ) → S → Type 0
Calls call s [] t = s ≡ t
Calls {S} call s (piece ∷ pieces) t = (mid : S) × call s piece mid × Calls call mid pieces t

-- calls that carry these bytes
pub record Carries {S : Type 0} (call : S → List ℕ → S → Type 0) (s : S) (bytes : List ℕ) (t : S) : Type 0 where
  pub pieces : List (List ℕ)
  pub calls : Calls call s pieces t
  pub whole : joined pieces ≡ bytes

-- the first n bytes of the buffer at `Ok(n)`, and none at an error
abbrev pub carried : {E : Type 0} → Result ℕ E → List ℕ → List ℕ
carried (Ok n) buf = take n buf
carried (Err e) buf = []

-- a write that fails, or takes no byte of some
abbrev pub takes_none : {E : Type 0} → Result ℕ E → List ℕ → Bool
takes_none (Ok n) buf = n == 0 && nat_lt 0 (length buf)
takes_none (Err e) buf = true
