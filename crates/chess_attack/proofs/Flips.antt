-- What is the same seen from either of two squares: how far apart they are, whether they are one, and a leap between them.
use Rattle.std.proofs.Common.{◌≡◌, ℕ, ◌==◌, false, refl, arith}
use Rattle.std.proofs.lemmas.Bool.{true≢false}
use Rattle.std.proofs.lemmas.Bool.Decides.{nat_tests}
use Rattle.chess_types.specs.declared.board.man.Colour.{Colour}
use Rattle.chess_types.specs.declared.board.man.Colour.TheVariants.{White, Black}
use Rattle.chess_types.specs.declared.board.man.Kind.{Kind}
use Rattle.chess_types.specs.declared.board.man.Kind.TheVariants.{Pawn, Knight, Bishop, Rook, Queen, King}
use Rattle.chess_types.specs.board.Squares.{file_of, rank_of}
use Rattle.chess_types.specs.board.Men.{is_pawn, opponent}
use Rattle.chess_types.specs.board.Attack.{distance, leaps}

distance_flip : (m n : ℕ) → distance m n ≡ distance n m
distance_flip m n = omega arith

pub equal_flip : (m n : ℕ) → (m == n) ≡ (n == m)
equal_flip m n = grind (arith, nat_tests)

-- a leap, seen from where it ends: a pawn's is one of the other colour's, and for the others the colour doesn't matter
pub leap_back : (c : Colour) (kind : Kind) (a b : ℕ) → leaps (opponent c) kind b a ≡ leaps c kind a b
unfolding leaps
leap_back White Pawn a b = rw (distance_flip (file_of a) (file_of b)) refl
leap_back Black Pawn a b = rw (distance_flip (file_of a) (file_of b)) refl
leap_back c Knight a b = rw (distance_flip (file_of a) (file_of b), distance_flip (rank_of a) (rank_of b)) refl
leap_back c King a b = rw (distance_flip (file_of a) (file_of b), distance_flip (rank_of a) (rank_of b), equal_flip a b) refl
leap_back c Bishop a b = refl
leap_back c Rook a b = refl
leap_back c Queen a b = refl

-- so but for a pawn's it goes both ways
pub leap_flip : (c : Colour) (kind : Kind) (a b : ℕ) → is_pawn kind ≡ false → leaps c kind a b ≡ leaps c kind b a
unfolding leaps
leap_flip c Pawn a b h = absurd (true≢false h)
leap_flip c Knight a b h = rw (distance_flip (file_of a) (file_of b), distance_flip (rank_of a) (rank_of b)) refl
leap_flip c King a b h = rw (distance_flip (file_of a) (file_of b), distance_flip (rank_of a) (rank_of b), equal_flip a b) refl
leap_flip c Bishop a b h = refl
leap_flip c Rook a b h = refl
leap_flip c Queen a b h = refl
