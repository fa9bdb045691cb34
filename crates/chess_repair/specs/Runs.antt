-- Texts from some byte on.
--   past       the text without the bytes at its beginning that pass a test
--   past_end   the text without those at its end
--   has_first  the text has a first byte, and it passes
use Rattle.std.specs.Prelude.{ℕ, Bool, false, if◌then◌else◌, List, [], ◌∷◌, reverse}

abbrev pub past : (ℕ → Bool) → List ℕ → List ℕ
past p [] = []
past p (b ∷ bs) = if p b then past p bs else b ∷ bs

abbrev pub past_end : (ℕ → Bool) → List ℕ → List ℕ
past_end p text = reverse (past p (reverse text))

abbrev pub has_first : (ℕ → Bool) → List ℕ → Bool
has_first p [] = false
has_first p (b ∷ bs) = p b
