-- The colours of squares: a bishop keeps to one, a knight changes it with each move, and so does a king that goes along a rank or a file.
use Rattle.std.proofs.Common.{◌∙◌, ◌≡◌, ◌≢◌, ℕ, ◌+◌, ◌-◌, ◌%◌, ◌<◌, ◌==◌, nat_lt, Bool, true, false, not, ◌&&◌, ◌||◌, List, [], ◌∷◌, refl, sym, arith, inl, inr}
use Rattle.std.specs.List.{list_all, list_any}
use Rattle.std.proofs.lemmas.Bool.{or_cases, eqb-true, true≢false, ne_eqb}
use Rattle.chess_types.specs.declared.board.man.Colour.{Colour}
use Rattle.chess_types.specs.declared.board.man.Colour.TheVariants.{White}
use Rattle.chess_types.specs.declared.board.man.Kind.TheVariants.{Knight, Bishop, King}
use Rattle.chess_types.specs.board.Squares.{file_of, rank_of, squares}
use Rattle.chess_types.specs.board.Attack.{leaps, slides, slides_to}
use Rattle.chess_types.proofs.Runs.{list_all_at}

-- 1 on light squares, 0 on dark ones
abbrev pub tone : ℕ → ℕ
tone s = (file_of s + rank_of s) % 2

-- a test of two squares that holds of all
abbrev pub on_all : (ℕ → ℕ → Bool) → Bool
on_all test = list_all (λ a. list_all (test a) squares) squares

pub at_two : (test : ℕ → ℕ → Bool) → on_all test ≡ true → (a b : ℕ) → a < 64 → b < 64 → test a b ≡ true
unfolding squares
at_two test all a b ha hb = list_all_at (test a) 0 64 b (list_all_at (λ x. list_all (test x) squares) 0 64 a all (omega arith) (omega arith)) (omega arith) (omega arith)

-- where a test implies another
pub implied : (x y : Bool) → (not x || y) ≡ true → x ≡ true → y ≡ true
implied true y h e = h
implied false y h e = absurd (true≢false (sym e))

bishop_test : ℕ → ℕ → Bool
bishop_test a b = not (slides_to Bishop a b) || tone a == tone b

bishop_table : on_all bishop_test ≡ true
unfolding squares slides_to slides bishop_test
bishop_table = refl

-- a bishop keeps to squares of one colour
pub bishop_tone : (a b : ℕ) → a < 64 → b < 64 → slides_to Bishop a b ≡ true → tone a ≡ tone b
unfolding bishop_test
bishop_tone a b ha hb h = eqb-true (tone a) (tone b) (implied _ _ (at_two bishop_test bishop_table a b ha hb) h)

knight_test : ℕ → ℕ → Bool
knight_test a b = not (leaps White Knight a b) || tone a + tone b == 1

knight_table : on_all knight_test ≡ true
unfolding squares leaps knight_test
knight_table = refl

-- a knight goes to a square of the other colour
pub knight_tone : (c : Colour) (a b : ℕ) → a < 64 → b < 64 → leaps c Knight a b ≡ true → tone a + tone b ≡ 1
unfolding knight_test leaps
knight_tone c a b ha hb h = eqb-true (tone a + tone b) 1 (implied _ _ (at_two knight_test knight_table a b ha hb) h)

-- two squares next to each other
abbrev pub beside : ℕ → ℕ → Bool
beside a b = leaps White King a b

-- the squares next to a square on its file and rank, and perhaps others
abbrev steps : ℕ → List ℕ
steps a = (a + 1) ∷ (a + 8) ∷ (a - 1) ∷ (a - 8) ∷ []

-- a king may go from k to e, a square of the other colour, out of the reach of a king on j
abbrev pub escapes : ℕ → ℕ → ℕ → Bool
escapes k j e = nat_lt e 64 && beside k e && not (beside j e) && not (j == e) && tone k + tone e == 1

escape_test : ℕ → ℕ → Bool
escape_test k j = k == j || beside j k || list_any (escapes k j) (steps k)

escape_table : on_all escape_test ≡ true
unfolding squares leaps escape_test
escape_table = refl

one_of : (p : ℕ → Bool) (xs : List ℕ) → list_any p xs ≡ true → (x : ℕ) × (p x ≡ true)
one_of p [] h = absurd (true≢false (sym h))
one_of p (x ∷ xs) h = elim (or_cases _ _ h) [ inl e ↦ (x, e) | inr more ↦ one_of p xs more ]

-- wherever two kings stand apart, each has such a square
pub escape : (k j : ℕ) → k < 64 → j < 64 → k ≢ j → beside j k ≡ false → (e : ℕ) × (escapes k j e ≡ true)
unfolding escape_test
escape k j hk hj apart far =
    let t : (k == j || beside j k || list_any (escapes k j) (steps k)) ≡ true = at_two escape_test escape_table k j hk hj in
    let u : list_any (escapes k j) (steps k) ≡ true = sym (rw (ne_eqb k j apart, far) refl) ∙ t in
    one_of (escapes k j) (steps k) u
