-- Comments whose end was looked for.
--   IsSearched     up to some byte of a source each of the bytes at hand passes
--   BeginsComment  bytes outside of tags begin with a comment: a left brace, or a semicolon
use Rattle.std.specs.Prelude.{◌≡◌, ◌≤◌, ℕ, ◌+◌, ◌-◌, Bool, true, List, ◌∷◌, length, take, drop}
use Rattle.std.specs.List.{list_all}
use Rattle.std.specs.Str.{byte}
use Rattle.chess_items.specs.Items.{is_outside}
use Rattle.chess_items.specs.declared.cut.Comment.{Comment}
use Rattle.chess_items.specs.declared.cut.Comment.TheVariants.{Braces, Line}
use Rattle.chess_items.specs.declared.place.Place.{Place}

-- of the bytes of which `used` are used, and before which `dropped` came
pub record IsSearched (p : ℕ → Bool) (to dropped used : ℕ) (bytes : List ℕ) : Type 0 where
  pub passes : list_all p (take (to - (dropped + used)) (drop used bytes)) ≡ true
  pub within : to ≤ dropped + length bytes

-- the byte that a comment begins with
abbrev pub sign_of : Comment → ℕ
sign_of Braces = byte "{"
sign_of Line = byte ";"

pub record BeginsComment (comment : Comment) (place : Place) (bytes : List ℕ) : Type 0 where
  pub outside : is_outside place ≡ true
  pub rest : List ℕ
  pub first : bytes ≡ sign_of comment ∷ rest
