-- Tables of words.
use Rattle.std.specs.Prelude.{ℕ, if◌then◌else◌, List, [], ◌∷◌, Option, Some, None}
use Rattle.std.specs.Str.{bytes_eq}

-- what is beside the word in the table, at its first place
abbrev pub beside : {X : Type 0} → List (List ℕ × X) → List ℕ → Option X
beside [] word = None
beside (row ∷ rows) word = if bytes_eq word row.0 then Some row.1 else beside rows word
