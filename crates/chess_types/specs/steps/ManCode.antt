-- A man as a pair of numbers, by which a proof tells men apart.
use Rattle.std.specs.Prelude.{◌≡◌, ℕ, zero, suc, refl}
use Rattle.std.specs.Coded.{Coded, code_by, coded×, coded_ℕ}
use Rattle.chess_types.specs.declared.board.man.Colour.{Colour}
use Rattle.chess_types.specs.declared.board.man.Colour.TheVariants.{White, Black}
use Rattle.chess_types.specs.declared.board.man.Kind.{Kind}
use Rattle.chess_types.specs.declared.board.man.Kind.TheVariants.{Pawn, Knight, Bishop, Rook, Queen, King}
use Rattle.chess_types.specs.declared.board.man.Man.{Man}
use Rattle.chess_types.specs.board.Men.{colour_number, kind_number}

-- the colour of a number
abbrev pub colour_of : ℕ → Colour
colour_of zero = White
colour_of (suc n) = Black

-- the kind of a number
abbrev pub kind_of : ℕ → Kind
kind_of zero = Pawn
kind_of (suc zero) = Knight
kind_of (suc (suc zero)) = Bishop
kind_of (suc (suc (suc zero))) = Rook
kind_of (suc (suc (suc (suc zero)))) = Queen
kind_of (suc (suc (suc (suc (suc n))))) = King

-- a colour's number gives it back
abbrev pub colour_of-number : (c : Colour) → colour_of (colour_number c) ≡ c
colour_of-number White = refl
colour_of-number Black = refl

-- a kind's number gives it back
abbrev pub kind_of-number : (k : Kind) → kind_of (kind_number k) ≡ k
kind_of-number Pawn = refl
kind_of-number Knight = refl
kind_of-number Bishop = refl
kind_of-number Rook = refl
kind_of-number Queen = refl
kind_of-number King = refl

-- a man as a pair of numbers
abbrev pub coded_man : Coded Man
coded_man =
    code_by (ℕ × ℕ) (coded× coded_ℕ coded_ℕ) (λ m. (colour_number m.colour, kind_number m.kind)) (λ p. record { colour = colour_of p.0; kind = kind_of p.1 })
    (λ m i. record { colour = colour_of-number m.colour i; kind = kind_of-number m.kind i })
