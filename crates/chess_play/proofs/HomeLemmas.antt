-- A move that touches no home of a king or a rook loses no castling right.
use Rattle.std.proofs.Common.{◌≡◌, ℕ, Bool, true, false, ◌&&◌, ◌||◌, ◌==◌, refl}
use Rattle.std.proofs.lemmas.Bool.{or_parts}
use Rattle.chess_types.specs.declared.board.position.Rights.{Rights}
use Rattle.chess_types.specs.board.MoveParts.{MoveParts}
use Rattle.chess_types.specs.board.After.{rights_after}
use Rattle.chess_play.specs.steps.Homes.{is_home}

-- the square is none of the six
record Off (s : ℕ) : Type 0 where
  pub a1 : (s == 0) ≡ false
  pub e1 : (s == 4) ≡ false
  pub h1 : (s == 7) ≡ false
  pub a8 : (s == 56) ≡ false
  pub e8 : (s == 60) ≡ false
  pub h8 : (s == 63) ≡ false

off : (s : ℕ) → is_home s ≡ false → Off s
off s none =
    let (a1, r1) : ((s == 0) ≡ false) × ((s == 4 || (s == 7 || (s == 56 || (s == 60 || s == 63)))) ≡ false) = or_parts _ _ none in
    let (e1, r2) : ((s == 4) ≡ false) × ((s == 7 || (s == 56 || (s == 60 || s == 63))) ≡ false) = or_parts _ _ r1 in
    let (h1, r3) : ((s == 7) ≡ false) × ((s == 56 || (s == 60 || s == 63)) ≡ false) = or_parts _ _ r2 in
    let (a8, r4) : ((s == 56) ≡ false) × ((s == 60 || s == 63) ≡ false) = or_parts _ _ r3 in
    let (e8, h8) : ((s == 60) ≡ false) × ((s == 63) ≡ false) = or_parts _ _ r4 in
    record { a1 = a1; e1 = e1; h1 = h1; a8 = a8; e8 = e8; h8 = h8 }

held : (x : Bool) → (x && true && true) ≡ x
held true = refl
held false = refl

pub rights_stay : (rights : Rights) (m : MoveParts) → is_home m.from ≡ false → is_home m.to ≡ false → rights_after rights m ≡ rights
rights_stay rights m from to =
    let f : Off m.from = off m.from from in
    let t : Off m.to = off m.to to in
    rw (f.a1, f.e1, f.h1, f.a8, f.e8, f.h8, t.a1, t.e1, t.h1, t.a8, t.e8, t.h8)
    (λ i. record { white_king = held rights.white_king i; white_queen = held rights.white_queen i; black_king = held rights.black_king i; black_queen = held rights.black_queen i })
