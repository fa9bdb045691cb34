-- The value of digits.
use Rattle.std.proofs.Common.{◌≡◌, ℕ, ◌+◌, ◌-◌, ◌*◌, ◌<◌, List, [], ◌∷◌, ◌++◌, length, take, get_or, refl}
use Rattle.std.proofs.lemmas.List.{take_more}
use Rattle.chess_items.specs.Items.{digits_value}

digits_more : (n : ℕ) (ds : List ℕ) (d : ℕ) → digits_value n (ds ++ d ∷ []) ≡ 10 * digits_value n ds + (d - 48)
digits_more n [] d = refl
digits_more n (x ∷ ds) d = digits_more (10 * n + (x - 48)) ds d

-- one digit more
pub digits_next : (ds : List ℕ) (i : ℕ) → i < length ds → digits_value 0 (take (i + 1) ds) ≡ 10 * digits_value 0 (take i ds) + (get_or ds i 0 - 48)
digits_next ds i h = rw (take_more ds i 0 h) (digits_more 0 (take i ds) (get_or ds i 0))
