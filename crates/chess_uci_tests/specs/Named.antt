-- The moves that the `go` line with `searchmoves` names.
use Rattle.std.specs.Prelude.{ℕ, Bool, ◌||◌, List, codes}
use Rattle.std.specs.Str.{bytes_eq}

-- it is one of them
abbrev pub is_named : List ℕ → Bool
is_named text = bytes_eq text (codes "e2e4") || bytes_eq text (codes "a1b1") || bytes_eq text (codes "d2d4")
