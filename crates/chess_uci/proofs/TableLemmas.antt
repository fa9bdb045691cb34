-- What stands beside a word, and what a function makes of it.
use Rattle.std.proofs.Common.{◌≡◌, ℕ, Bool, true, false, List, [], ◌∷◌, map, Option, Some, refl}
use Rattle.std.specs.Prelude.{if◌then◌else◌, option_map}
use Rattle.std.specs.Str.{bytes_eq}
use Rattle.chess_uci.specs.Tables.{beside}

beside_step : {X Y : Type 0} (f : X → Y) (x : X) (others : Option X) (others1 : Option Y) (is : Bool) → option_map f others ≡ others1
    → option_map f (if is then Some x else others) ≡ (if is then Some (f x) else others1)
beside_step f x others others1 true e = refl
beside_step f x others others1 false e = e

-- it stands beside the word in the table that the function makes
pub beside_map : {X Y : Type 0} (f : X → Y) (rows : List (List ℕ × X)) (word : List ℕ) → option_map f (beside rows word) ≡ beside (map (λ (row : List ℕ × X). (row.0, f row.1)) rows) word
beside_map f [] word = refl
beside_map {X} f (row ∷ rows) word = beside_step f row.1 (beside rows word) (beside (map (λ (r : List ℕ × X). (r.0, f r.1)) rows) word) (bytes_eq word row.0) (beside_map f rows word)
