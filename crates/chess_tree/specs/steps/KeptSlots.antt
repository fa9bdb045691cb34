-- A slot in the bytes that are kept of it.
--   below_of                       where the children are, by a byte and a number
--   children_kind, number_below    the byte and the number of where the children are
--   IsNumbered                     the number is 0 where there is no child
use Rattle.std.specs.Prelude.{◌≡◌, ℕ, refl, ⊤}
use Rattle.std.proofs.Common.{sym}
use Rattle.chess_tree.specs.declared.arena.kept_slot.Children.{Children}
use Rattle.chess_tree.specs.declared.arena.kept_slot.Children.TheVariants as are
use Rattle.chess_tree.specs.declared.arena.slot.Below.{Below}
use Rattle.chess_tree.specs.declared.arena.slot.Below.TheVariants.{Nothing, One, Listed}

abbrev pub below_of : Children → ℕ → Below
below_of are.Nothing number = Nothing
below_of are.One number = One number
below_of are.Listed number = Listed number

abbrev pub children_kind : Below → Children
children_kind Nothing = are.Nothing
children_kind (One child) = are.One
children_kind (Listed list) = are.Listed

abbrev pub number_below : Below → ℕ
number_below Nothing = 0
number_below (One child) = child
number_below (Listed list) = list

abbrev pub IsNumbered : Children → ℕ → Type 0
IsNumbered are.Nothing number = number ≡ 0
IsNumbered are.One number = ⊤
IsNumbered are.Listed number = ⊤

-- a byte is that of where the children are by it
abbrev pub children_kind-below : (c : Children) (number : ℕ) → children_kind (below_of c number) ≡ c
children_kind-below are.Nothing number = refl
children_kind-below are.One number = refl
children_kind-below are.Listed number = refl

-- a number is that of what it stands for with its byte
abbrev pub number-below : (c : Children) (number : ℕ) → IsNumbered c number → number_below (below_of c number) ≡ number
number-below are.Nothing number is = sym is
number-below are.One number is = refl
number-below are.Listed number is = refl
