-- Short laws of moves: a legal one is pseudo-legal, and a pseudo-legal one has its man; a leap goes elsewhere, a step ahead stays on its file.
use Rattle.std.proofs.Common.{◌≡◌, ℕ, ◌+◌, true, false, Option, Some, None, refl, sym, arith}
use Rattle.std.proofs.lemmas.Bool.{and_parts, true≢false, eqb-true}
use Rattle.std.proofs.lemmas.Bool.Decides.{nat_tests}
use Rattle.chess_types.specs.declared.board.man.Colour.{Colour}
use Rattle.chess_types.specs.declared.board.man.Colour.TheVariants.{White, Black}
use Rattle.chess_types.specs.declared.board.man.Kind.{Kind}
use Rattle.chess_types.specs.declared.board.man.Kind.TheVariants.{Pawn, Knight, King}
use Rattle.chess_types.specs.declared.board.man.Man.{Man}
use Rattle.chess_types.specs.board.Squares.{file_of}
use Rattle.chess_types.specs.board.Attack.{leaps}
use Rattle.chess_types.specs.board.MoveParts.{MoveParts}
use Rattle.chess_types.specs.board.Position.{PositionParts, man_on}
use Rattle.chess_types.specs.board.Pseudo.{is_ahead, moves_man, is_pseudo}
use Rattle.chess_types.specs.board.Legal.{is_legal}

pub leaps_self : (c : Colour) (k : Kind) (a : ℕ) → leaps c k a a ≡ false
unfolding leaps
leaps_self c Knight a = grind (arith, nat_tests)
leaps_self c King a = grind (arith, nat_tests)
leaps_self White Pawn a = grind (arith, nat_tests)
leaps_self Black Pawn a = grind (arith, nat_tests)
leaps_self c _ a = refl

pub ahead_file : (c : Colour) (a b : ℕ) → is_ahead c a b ≡ true → file_of a ≡ file_of b
ahead_file White a b h = omega (arith, eqb-true b (a + 8) h)
ahead_file Black a b h = omega (arith, eqb-true a (b + 8) h)

moved_by : (p : PositionParts) (o : Option Man) (m : MoveParts) → moves_man p o m ≡ true → (man : Man) × (o ≡ Some man)
moved_by p None m h = absurd (true≢false (sym h))
moved_by p (Some man) m h = (man, refl)

-- a man stands on the first square of a pseudo-legal move
pub pseudo_man : (p : PositionParts) (m : MoveParts) → is_pseudo p m ≡ true → (man : Man) × (man_on p m.from ≡ Some man)
pseudo_man p m h = moved_by p (man_on p m.from) m h

-- a legal move is pseudo-legal
pub legal_pseudo : (p : PositionParts) (m : MoveParts) → is_legal p m ≡ true → is_pseudo p m ≡ true
unfolding is_legal
legal_pseudo p m h = (and_parts _ _ h).0
