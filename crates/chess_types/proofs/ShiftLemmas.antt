-- A set of squares shifted: the bits of its word so many places up or down.
use Rattle.std.proofs.Common.{◌≡◌, ℕ, ◌+◌, ◌-◌, ◌*◌, ◌/◌, ◌%◌, ◌^◌, ◌<◌, ◌&&◌, ltb, leb, sym, ap, ◌∙◌, arith, inl, inr}
use Rattle.std.specs.FinSet.{contains}
use Rattle.std.specs.Int.{bit_at}
use Rattle.std.proofs.Math.Nat.{mod-lt}
use Rattle.std.proofs.Math.Pow.{pow_pos, split}
use Rattle.std.proofs.lemmas.Bool.{cases_lt}
use Rattle.std.proofs.lemmas.Bool.Decides.{nat_tests}
use Rattle.std.proofs.lemmas.Nat.Bits.{bit_at-zero, bit_at_above, bit_at_cat_low, bit_at_cat_high}
use Rattle.chess_types.specs.board.Bits.{set_of}
use Rattle.chess_types.proofs.BitLemmas.{contains-set_of}

-- the low bits of a number are those of the whole
low_bits : (x i : ℕ) → i < 64 → bit_at (x % 2 ^ 64) i ≡ bit_at x i
low_bits x i h = sym (bit_at_cat_low (x / 2 ^ 64) 64 (x % 2 ^ 64) i h) ∙ ap (λ n. bit_at n i) (omega arith)

pub set_of-up : (bits by s : ℕ) → contains (set_of (bits * 2 ^ by % 18446744073709551616)) s ≡ (ltb s 64 && leb by s && contains (set_of bits) (s - by))
set_of-up bits by s =
    contains-set_of (bits * 2 ^ by % 18446744073709551616) s
    ∙ (elim (cases_lt s 64) [
      | inr ge ↦ grind (arith, nat_tests)
      | inl lt ↦
          let whole = low_bits (bits * 2 ^ by) s lt in
          elim (cases_lt s by) [
            | inl under ↦
                let zero : bit_at (bits * 2 ^ by) s ≡ 0 = ap (λ n. bit_at n s) (omega arith) ∙ bit_at_cat_low bits by 0 s under ∙ bit_at-zero s in
                grind (arith, nat_tests, whole, zero)
            | inr over ↦
                let moved : bit_at (bits * 2 ^ by) s ≡ bit_at bits (s - by) = ap (λ n. bit_at n s) (omega arith) ∙ bit_at_cat_high bits by 0 s (pow_pos by) over in
                grind (arith, nat_tests, whole, moved, contains-set_of bits (s - by))
          ]
    ])

pub set_of-down : (bits by s : ℕ) → bits < 2 ^ 64 → contains (set_of (bits / 2 ^ by)) s ≡ (ltb (s + by) 64 && contains (set_of bits) (s + by))
set_of-down bits by s fits =
    let is : (bits / 2 ^ by) * 2 ^ by + bits % 2 ^ by ≡ bits = split bits by in
    let small : bits % 2 ^ by < 2 ^ by = mod-lt bits (pow_pos by) in
    let moved : bit_at bits (s + by) ≡ bit_at (bits / 2 ^ by) s =
    ap (λ n. bit_at n (s + by)) (sym is) ∙ bit_at_cat_high (bits / 2 ^ by) by (bits % 2 ^ by) (s + by) small (omega arith) ∙ ap (bit_at (bits / 2 ^ by)) (omega arith) in
    contains-set_of (bits / 2 ^ by) s
    ∙ (elim (cases_lt (s + by) 64) [
      | inl lt ↦ grind (arith, nat_tests, moved, contains-set_of bits (s + by))
      | inr ge ↦ let none : bit_at bits (s + by) ≡ 0 = bit_at_above bits 64 (s + by) fits ge in grind (arith, nat_tests, moved, none, contains-set_of bits (s + by))
    ])
