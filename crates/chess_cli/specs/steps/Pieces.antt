-- The text of a path, place by place.
--   next_place   what a path's next place adds to its text
use Rattle.std.specs.Prelude.{ℕ, zero, suc, List, ◌∷◌, decimal}

-- the place at a ply, after a period where it isn't the first
abbrev pub next_place : ℕ → ℕ → List ℕ
next_place zero place = decimal place
next_place (suc ply) place = 46 ∷ decimal place
