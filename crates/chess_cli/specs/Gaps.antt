-- Texts with a gap between two.
use Rattle.std.specs.Prelude.{ℕ, List, [], ◌∷◌, ◌++◌}

-- each text after a gap
abbrev pub gapped : List ℕ → List (List ℕ) → List ℕ
gapped gap [] = []
gapped gap (text ∷ texts) = gap ++ text ++ gapped gap texts

-- the texts, separated by a gap
abbrev pub separated_by : List ℕ → List (List ℕ) → List ℕ
separated_by gap [] = []
separated_by gap (text ∷ texts) = text ++ gapped gap texts
