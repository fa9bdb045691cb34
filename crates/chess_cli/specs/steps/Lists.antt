-- How a list of texts is written, one after the other.
use Rattle.std.specs.Prelude.{ℕ, List, [], ◌∷◌, ◌++◌}

-- the text, and the next one after a space, where there is a text already
abbrev pub with_another : List ℕ → List ℕ → List ℕ
with_another [] next = next
with_another (byte ∷ bytes) next = (byte ∷ bytes) ++ 32 ∷ next
