-- Tags as a map of the code keeps them.
--   shown   the map as a list
--   Sets    the tag of a name is set or taken out
--   Finds   what is kept of the tags that were read
use Rattle.std.specs.Prelude.{◌≡◌, ℕ, if◌then◌else◌, List, Vec, map, Option, None, codes, bytes_eq}
use Rattle.chess_pgn.specs.Games.{tag_in}

abbrev pub shown : {A : Type 0} → List (Vec ℕ A × Vec ℕ A) → List (List ℕ × List ℕ)
shown entries = map (λ entry. (entry.0.items, entry.1.items)) entries

-- the others are as they were
abbrev pub Sets : List ℕ → Option (List ℕ) → List (List ℕ × List ℕ) → List (List ℕ × List ℕ) → Type 0
Sets name value old new = (other : List ℕ) → tag_in other new ≡ (if bytes_eq name other then value else tag_in other old)

-- the first value of each name but Result
abbrev pub Finds : List (List ℕ × List ℕ) → List (List ℕ × List ℕ) → Type 0
Finds read kept = (name : List ℕ) → tag_in name kept ≡ (if bytes_eq (codes "Result") name then None else tag_in name read)
