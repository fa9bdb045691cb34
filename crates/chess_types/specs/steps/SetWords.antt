-- A set of squares and its word: the set holds the squares whose bits are 1, and its word is the one that it came from.
use Rattle.std.specs.Prelude.{◌≡◌, ℕ, ◌<◌, ◌^◌, ◌==◌, Bool, true, false, ◌&&◌, cond, length, map, nat_eq, refl}
use Rattle.std.specs.List.{list_any, range_with_len}
use Rattle.std.specs.Int.{bit_at}
use Rattle.std.specs.FinSet.{contains, contains-from_list_nat}
use Rattle.std.proofs.Common.{◌∙◌, ap, zero, suc, get_or, zero-add, arith}
use Rattle.std.proofs.Math.Bool.{and-true}
use Rattle.std.proofs.lemmas.Bool.{eqb-true, eq-eqb}
use Rattle.std.proofs.lemmas.List.Folds.{list_any_at}
use Rattle.std.proofs.lemmas.List.FromFn.{length-range_with_len, get_or-range_with_len, length-map-range_with_len, get_or-map-range_with_len}
use Rattle.std.proofs.lemmas.Map.Views.{any-filter_same}
use Rattle.std.proofs.lemmas.Nat.Bits.{bit_at-lt, same_from_bits_below}
use Rattle.std.proofs.lemmas.Simd.{mask_l-lt, bit_mask_l}
use lib.Lanes.{mask_l}
use Rattle.chess_types.specs.board.Squares.{squares}
use Rattle.chess_types.specs.board.Bits.{squares_of, set_of, bits_of}

-- each number below 64 is a square
pub squares-holds : (i : ℕ) → i < 64 → list_any (λ y. nat_eq y i) squares ≡ true
unfolding squares
squares-holds i h =
    let within : i < length (range_with_len 0 64) = omega (arith, length-range_with_len 0 64) in
    let here : get_or (range_with_len 0 64) i 0 ≡ i = get_or-range_with_len 0 64 i 0 h ∙ zero-add i in
    list_any_at (λ y. nat_eq y i) (range_with_len 0 64) i 0 within (eq-eqb _ i here)

-- a set holds the squares whose bits are 1
pub set_of-holds : (bits i : ℕ) → i < 64 → contains (set_of bits) i ≡ (bit_at bits i == 1)
set_of-holds bits i h =
    let test = λ (s : ℕ). bit_at bits s == 1 in
    contains-from_list_nat (squares_of bits) i
    ∙ any-filter_same (λ y. nat_eq y i) test (test i) (λ k same. ap test (eqb-true k i same)) squares
    ∙ ap (λ b. test i && b) (squares-holds i h)
    ∙ and-true (test i)

-- a bit is 1 or 0
bit-from_test : (b : ℕ) → b < 2 → ◌≡◌ {A = ℕ} (cond (b == 1) 1 0) b
bit-from_test zero h = refl
bit-from_test (suc zero) h = refl
bit-from_test (suc (suc b)) h = absurd (omega arith)

-- the word with these bits
mask-is : (holds : ℕ → Bool) (n bits : ℕ) → bits < 2 ^ n → ((i : ℕ) → i < n → holds i ≡ (bit_at bits i == 1)) → mask_l (map holds (range_with_len 0 n)) ≡ bits
mask-is holds n bits fits same =
    let long : length (map holds (range_with_len 0 n)) ≡ n = length-map-range_with_len holds 0 n in
    let small = rw long at (mask_l-lt (map holds (range_with_len 0 n))) in
    same_from_bits_below n (mask_l (map holds (range_with_len 0 n))) bits small fits (λ i h.
    bit_mask_l (map holds (range_with_len 0 n)) i
    ∙ ap (λ b. cond b 1 0) (get_or-map-range_with_len holds 0 n i i false h (zero-add i) ∙ same i h)
    ∙ bit-from_test (bit_at bits i) (bit_at-lt bits i))

-- the set of a word gives the word back
pub word_of-set_of : (bits : ℕ) → bits < 2 ^ 64 → bits_of (set_of bits) ≡ bits
unfolding bits_of squares
word_of-set_of bits fits = mask-is (contains (set_of bits)) 64 bits fits (set_of-holds bits)
