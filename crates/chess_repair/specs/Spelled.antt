-- What is written for a text.
--   IsRewritten  its first `used` bytes are written anew, with these repairs
use Rattle.std.specs.Prelude.{◌≡◌, ◌+◌, ℕ, List, length}
use Rattle.chess_repair.specs.Repairs.{Rewrites}
use Rattle.chess_repair.specs.declared.spelling.Spelled.{Spelled}

abbrev pub IsRewritten : {A : Type 0} → List ℕ → Spelled A → Type 0
IsRewritten text s = (rest : List ℕ) × Rewrites (length text) text s.repairs.items s.text.items rest × (s.used + length rest ≡ length text)
