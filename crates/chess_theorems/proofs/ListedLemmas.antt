-- Moves of the list of legal ones, the position after one, and short laws that several files need.
use Rattle.std.proofs.Common.{◌≡◌, false, List, [], ◌∷◌, refl, arith}
use Rattle.std.specs.List.{Contains}
use Rattle.std.proofs.lemmas.Bool.{true≢false}
use Rattle.chess_types.specs.declared.board.man.Colour.{Colour}
use Rattle.chess_types.specs.declared.board.man.Colour.TheVariants.{White, Black}
use Rattle.chess_types.specs.board.MoveParts.{MoveParts}
use Rattle.chess_types.specs.board.Men.{opponent}
use Rattle.chess_types.specs.board.Position.{PositionParts, IsWellFormed}
use Rattle.chess_types.specs.board.After.{after}
use Rattle.chess_types.specs.board.Legal.{legal_moves}
use Rattle.chess_types.specs.board.Outcome.{is_without}
use Rattle.chess_moves.proofs.LegalLaws.{legal_well_formed, listed_legal}

-- the other side's other side is the side itself
pub twice : (c : Colour) → opponent (opponent c) ≡ c
twice White = refl
twice Black = refl

-- a list with a move isn't without one, and one that isn't without has one
pub listed_some : (moves : List MoveParts) (m : MoveParts) → Contains moves m → is_without moves ≡ false
listed_some [] m h = absurd (omega (arith, h.1))
listed_some (x ∷ moves) m h = refl

pub first_of : (moves : List MoveParts) → is_without moves ≡ false → (m : MoveParts) × Contains moves m
first_of [] h = absurd (true≢false h)
first_of (m ∷ moves) h = (m, (0, omega arith, refl))

-- the position after a listed move is well formed
pub stays_well : (p : PositionParts) (m : MoveParts) → IsWellFormed p → Contains (legal_moves p) m → IsWellFormed (after p m)
stays_well p m well listed = let (on, legal) = listed_legal p m listed in legal_well_formed p m well.setup on.from on.to legal
