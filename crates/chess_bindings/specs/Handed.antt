-- Answers that are put where C has room for them.
--   IsHanded   a list of values, with how many they are: they come first, and the rest of the room is as it was; where they are too many, nothing
--              is written but their number
--   IsAnsweredBy   a text that is written, or for which there was no memory, and then nothing is written
use Rattle.std.specs.Prelude.{◌≡◌, ℕ, nat_le, Bool, true, false, ◌⊎◌, List, ◌++◌, length, drop}
use Rattle.chess_bindings.specs.Codes.{ok, no_room, no_memory}

-- whether there is room
abbrev pub HandedIf : {X : Type 0} → Bool → List X → ℕ → List X → List X → Type 0
HandedIf true values code old new = (code ≡ ok) × (new ≡ values ++ drop (length values) old)
HandedIf false values code old new = (code ≡ no_room) × (new ≡ old)

-- the values are written, or only their number where there is too little room
abbrev pub IsHanded : {X : Type 0} → List X → (code count : ℕ) → (old new : List X) → Type 0
IsHanded values code count old new = (count ≡ length values) × HandedIf (nat_le (length values) (length old)) values code old new

-- the same, or there is no memory
abbrev pub IsAnsweredBy : List ℕ → (code count count' : ℕ) → (old new : List ℕ) → Type 0
IsAnsweredBy text code count count' old new = IsHanded text code count' old new ⊎ ((code ≡ no_memory) × (count' ≡ count) × (new ≡ old))
