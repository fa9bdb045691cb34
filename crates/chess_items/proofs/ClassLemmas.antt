-- The longest run without a byte ends where that byte is found.
use Rattle.std.proofs.Common.{◌≡◌, ◌==◌, ℕ, Bool, true, false, not, List, length, get_or, Some, None, refl, sym, ap, arith}
use Rattle.std.specs.List.{prefix_len}
use Rattle.std.proofs.lemmas.List.Sums.{prefix_len_is}
use Rattle.memchr.specs.Find.{IsFirstByte, is_byte}

not_true : (v : Bool) → (v ≡ true → ⊥) → not v ≡ true
not_true true h = absurd (h refl)
not_true false h = refl

pub found_run : (stop : ℕ) (bytes : List ℕ) (at : ℕ) → IsFirstByte (is_byte stop) bytes (Some at) → at ≡ prefix_len (λ (b : ℕ). not (b == stop)) bytes
found_run stop bytes at first =
    sym (prefix_len_is (λ (b : ℕ). not (b == stop)) bytes at 0 (omega (arith, first.0.high)) (λ k low. not_true (get_or bytes k 0 == stop) (first.0.before k (omega arith) low)) (λ low. ap not first.1))

pub whole_run : (stop : ℕ) (bytes : List ℕ) → IsFirstByte (is_byte stop) bytes None → length bytes ≡ prefix_len (λ (b : ℕ). not (b == stop)) bytes
whole_run stop bytes nowhere =
    sym (prefix_len_is (λ (b : ℕ). not (b == stop)) bytes (length bytes) 0 (omega arith) (λ k low. not_true (get_or bytes k 0 == stop) (nowhere k (omega arith) low)) (λ low. absurd (omega (arith, low))))
