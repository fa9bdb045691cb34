-- The exclusive or of a run of numbers.
use Rattle.std.proofs.Common.{◌≡◌, ℕ, zero, suc, ◌+◌, [], ◌∷◌, map, bit_xor, refl, ap, sym, ◌∙◌, arith}
use Rattle.std.specs.List.{range_with_len}
use lib.Bits.{xor_assoc, xor_zero_l, xor_zero_r}
use Rattle.chess_types.specs.board.Board.{Men}
use Rattle.chess_types.specs.board.Squares.{squares}
use Rattle.chess_polyglot.specs.Keys.{xor_all, number_there, men_key}

-- of f a, f (a + 1) and so on, n of them
unfoldable pub run : (ℕ → ℕ) → ℕ → ℕ → ℕ
run f a n = xor_all (map f (range_with_len a n))

run-first : (f : ℕ → ℕ) (a n : ℕ) → run f a (suc n) ≡ bit_xor (f a) (run f (a + 1) n)
unfolding run
run-first f a n = refl

run-none : (f : ℕ → ℕ) (a : ℕ) → run f a 0 ≡ 0
unfolding run
run-none f a = refl

-- one number more
pub run-more : (f : ℕ → ℕ) (a n : ℕ) → bit_xor (run f a n) (f (a + n)) ≡ run f a (n + 1)
run-more f a zero =
    ap (λ x. bit_xor x (f (a + 0))) (run-none f a) ∙ xor_zero_l (f (a + 0)) ∙ ap f (omega arith) ∙ sym (xor_zero_r (f a))
    ∙ ap (bit_xor (f a)) (sym (run-none f (a + 1))) ∙ sym (run-first f a 0)
run-more f a (suc n) =
    ap (λ x. bit_xor x (f (a + suc n))) (run-first f a n) ∙ xor_assoc (f a) (run f (a + 1) n) (f (a + suc n))
    ∙ ap (λ x. bit_xor (f a) (bit_xor (run f (a + 1) n) (f x))) (omega arith) ∙ ap (bit_xor (f a)) (run-more f (a + 1) n)
    ∙ ap (λ x. bit_xor (f a) (run f (a + 1) x)) (omega arith) ∙ sym (run-first f a (suc n)) ∙ ap (run f a) (omega arith)

-- the numbers of the men on the first squares
unfoldable pub men_below : Men → ℕ → ℕ
men_below man_on n = run (λ s. number_there (man_on s) s) 0 n

pub men_below-none : (man_on : Men) → men_below man_on 0 ≡ 0
unfolding men_below
men_below-none man_on = run-none (λ s. number_there (man_on s) s) 0

pub men_below-more : (man_on : Men) (n : ℕ) → bit_xor (men_below man_on n) (number_there (man_on n) n) ≡ men_below man_on (n + 1)
unfolding men_below
men_below-more man_on n =
    ap (λ s. bit_xor (run (λ s. number_there (man_on s) s) 0 n) (number_there (man_on s) s)) (omega arith) ∙ run-more (λ s. number_there (man_on s) s) 0 n

pub men_below-all : (man_on : Men) → men_below man_on 64 ≡ men_key man_on
unfolding men_below men_key run squares
men_below-all man_on = refl

-- four numbers, from the left
pub four : (a b c d : ℕ) → bit_xor (bit_xor (bit_xor a b) c) d ≡ xor_all (a ∷ b ∷ c ∷ d ∷ [])
four a b c d =
    xor_assoc (bit_xor a b) c d ∙ xor_assoc a b (bit_xor c d) ∙ ap (λ x. bit_xor a (bit_xor b (bit_xor c x))) (sym (xor_zero_r d))
