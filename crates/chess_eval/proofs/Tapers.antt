-- The mean of two sums by the phase is no larger than they are.
use Rattle.std.proofs.Common.{◌≡◌, ℕ, zero, suc, ◌+◌, ◌-◌, ◌*◌, ◌/◌, ◌≤◌, min, ℤ, pos, negsuc, ◌+ℤ◌, ◌-ℤ◌, ◌*ℤ◌, neg_ℤ, ◌≤ℤ◌, w32, to_z, of_z, refl, sym, ap, ◌∙◌, arith}
use Rattle.std.proofs.Math.Nat.{mul-le-mul_right, mul-add}
use Rattle.std.proofs.Math.IntN.{neg_ℤ-neg_ℤ}
use Rattle.std.specs.Prelude.{int_div}
use Rattle.std.proofs.lemmas.Int.{ints, clamps}
use Rattle.chess_eval.specs.Evaluation.{Sums, phase, tapered, IsWithin}
use Rattle.chess_eval.specs.steps.Changes.{AreInRange}

-- how many parts of 24 are the middlegame's
pub phase_is : (weights : ℤ) → pos 0 ≤ℤ weights → (n : ℕ) × (phase weights ≡ pos n) × (n ≤ 24)
phase_is (pos a) h = (min a 24, omega (arith, ints, clamps), omega arith)
phase_is (negsuc a) h = absurd (omega (arith, ints, h))

-- a number of parts
pub parts_within : (most : ℕ) (x : ℤ) (n : ℕ) → IsWithin most x → IsWithin (most * n) (x *ℤ pos n)
parts_within most (pos a) n h =
    let more : a * n ≤ most * n = mul-le-mul_right n (omega (arith, ints, h.high)) in
    record { low = omega (arith, ints, more); high = omega (arith, ints, more) }
parts_within most (negsuc a) n h =
    let more : suc a * n ≤ most * n = mul-le-mul_right n (omega (arith, ints, h.low)) in
    record { low = omega (arith, ints, more); high = omega (arith, ints, more) }

-- cut towards 0
cut_within : (most : ℕ) (x : ℤ) → IsWithin (most * 24) x → IsWithin most (int_div x (pos 24))
cut_within most (pos a) h = let small : a ≤ most * 24 = omega (arith, ints, h.high) in record { low = omega (arith, ints); high = omega (arith, ints) }
cut_within most (negsuc a) h = let small : suc a ≤ most * 24 = omega (arith, ints, h.low) in record { low = omega (arith, ints); high = omega (arith, ints) }

-- 24 parts in all
mean_within : (most n : ℕ) (middle end : ℤ) → n ≤ 24 → IsWithin most middle → IsWithin most end →
    IsWithin (most * 24) (middle *ℤ pos n +ℤ end *ℤ (pos 24 -ℤ pos n))
mean_within most n middle end h m e =
    let rest : pos 24 -ℤ pos n ≡ pos (24 - n) = omega (arith, ints) in
    let all : most * 24 ≡ most * n + most * (24 - n) = ap (λ x. most * x) (omega arith) ∙ mul-add most n (24 - n) in
    let before = parts_within most middle n m in
    let after = parts_within most end (24 - n) e in
    rw rest (record { low = omega (arith, ints, all, before.low, after.low); high = omega (arith, ints, all, before.high, after.high) })

pub tapered_within : (most : ℕ) (sums : Sums) → IsWithin most sums.middle → IsWithin most sums.end → pos 0 ≤ℤ sums.weights → IsWithin most (tapered sums)
unfolding tapered
tapered_within most sums middle end weights =
    let part = phase_is sums.weights weights in
    cut_within most (sums.middle *ℤ phase sums.weights +ℤ sums.end *ℤ (pos 24 -ℤ phase sums.weights))
    (rw part.1 (mean_within most part.0 sums.middle sums.end part.2 middle end))

-- the negative of both
parts-neg : (x : ℤ) (n : ℕ) → neg_ℤ x *ℤ pos n ≡ neg_ℤ (x *ℤ pos n)
parts-neg (pos zero) n = let none : 0 * n ≡ 0 = omega arith in rw none refl
parts-neg (pos (suc a)) n = refl
parts-neg (negsuc a) n = sym (neg_ℤ-neg_ℤ (pos (suc a * n)))

cut-neg : (x : ℤ) → int_div (neg_ℤ x) (pos 24) ≡ neg_ℤ (int_div x (pos 24))
cut-neg (pos zero) = refl
cut-neg (pos (suc a)) = refl
cut-neg (negsuc a) = sym (neg_ℤ-neg_ℤ (pos (suc a / 24)))

mean-neg : (n : ℕ) (middle end : ℤ) → n ≤ 24 →
    neg_ℤ middle *ℤ pos n +ℤ neg_ℤ end *ℤ (pos 24 -ℤ pos n) ≡ neg_ℤ (middle *ℤ pos n +ℤ end *ℤ (pos 24 -ℤ pos n))
mean-neg n middle end h =
    let rest : pos 24 -ℤ pos n ≡ pos (24 - n) = omega (arith, ints) in
    rw rest (omega (arith, ints, parts-neg middle n, parts-neg end (24 - n)))

pub tapered-neg : (sums : Sums) → pos 0 ≤ℤ sums.weights →
    tapered (record { middle = neg_ℤ sums.middle; end = neg_ℤ sums.end; weights = sums.weights }) ≡ neg_ℤ (tapered sums)
unfolding tapered
tapered-neg sums weights =
    let part = phase_is sums.weights weights in
    rw part.1 (ap (λ x. int_div x (pos 24)) (mean-neg part.0 sums.middle sums.end part.2) ∙ cut-neg (sums.middle *ℤ pos part.0 +ℤ sums.end *ℤ (pos 24 -ℤ pos part.0)))

-- The steps of the mean of sums in range: none is large.
pub record AreSmallSteps (sums : Sums) : Type 0 where
  pub phase_low : pos 0 ≤ℤ phase sums.weights
  pub phase_high : phase sums.weights ≤ℤ pos 24
  pub middle : IsWithin 1387008 (sums.middle *ℤ phase sums.weights)
  pub end : IsWithin 1387008 (sums.end *ℤ (pos 24 -ℤ phase sums.weights))
  pub mean : IsWithin 1387008 (sums.middle *ℤ phase sums.weights +ℤ sums.end *ℤ (pos 24 -ℤ phase sums.weights))

pub small_steps : (sums : Sums) → AreInRange sums → AreSmallSteps sums
small_steps sums range =
    let part = phase_is sums.weights range.weights_low in
    let n = part.0 in
    let rest : pos 24 -ℤ phase sums.weights ≡ pos (24 - n) = omega (arith, ints, part.1, part.2) in
    let low : 57792 * n ≤ 1387008 = omega (arith, part.2) in
    let high : 57792 * (24 - n) ≤ 1387008 = omega (arith, part.2) in
    let middle = parts_within 57792 sums.middle n range.middle in
    let end = parts_within 57792 sums.end (24 - n) range.end in
    record {
      phase_low = omega (arith, ints, part.1);
      phase_high = omega (arith, ints, part.1, part.2);
      middle = rw part.1 (record { low = omega (arith, ints, middle.low, low); high = omega (arith, ints, middle.high, low) });
      end = rw rest (record { low = omega (arith, ints, end.low, high); high = omega (arith, ints, end.high, high) });
      mean = rw part.1 (mean_within 57792 n sums.middle sums.end part.2 range.middle range.end);
    }

-- What the mean is computed from, and what on the way, as it is kept in 32 bits: `part` is the phase that was asked for.
pub record AreKept (sums : Sums) (part : ℤ) : Type 0 where
  pub middle : to_z w32 (of_z w32 sums.middle) ≡ sums.middle
  pub end : to_z w32 (of_z w32 sums.end) ≡ sums.end
  pub before : to_z w32 (of_z w32 part) ≡ phase sums.weights
  pub rest : to_z w32 (of_z w32 (pos 24 -ℤ phase sums.weights)) ≡ pos 24 -ℤ phase sums.weights
  pub parts : to_z w32 (of_z w32 (sums.middle *ℤ phase sums.weights)) ≡ sums.middle *ℤ phase sums.weights
  pub others : to_z w32 (of_z w32 (sums.end *ℤ (pos 24 -ℤ phase sums.weights))) ≡ sums.end *ℤ (pos 24 -ℤ phase sums.weights)
  pub mean : to_z w32 (of_z w32 (sums.middle *ℤ phase sums.weights +ℤ sums.end *ℤ (pos 24 -ℤ phase sums.weights)))
      ≡ sums.middle *ℤ phase sums.weights +ℤ sums.end *ℤ (pos 24 -ℤ phase sums.weights)

pub kept : (sums : Sums) (part : ℤ) → AreInRange sums → part ≡ phase (to_z w32 (of_z w32 sums.weights)) → AreKept sums part
kept sums part range asked =
    let small = small_steps sums range in
    let weights : to_z w32 (of_z w32 sums.weights) ≡ sums.weights = omega (arith, ints, range.weights_low, range.weights_high) in
    let is : part ≡ phase sums.weights = asked ∙ ap phase weights in
    record {
      middle = omega (arith, ints, range.middle.low, range.middle.high);
      end = omega (arith, ints, range.end.low, range.end.high);
      before = omega (arith, ints, is, small.phase_low, small.phase_high);
      rest = omega (arith, ints, small.phase_low, small.phase_high);
      parts = omega (arith, ints, small.middle.low, small.middle.high);
      others = omega (arith, ints, small.end.low, small.end.high);
      mean = omega (arith, ints, small.mean.low, small.mean.high);
    }

pub kept_mean : (sums : Sums) (result : ℤ) → AreInRange sums → result ≡ tapered sums → to_z w32 (of_z w32 result) ≡ tapered sums
kept_mean sums result range is =
    let all = tapered_within 57792 sums range.middle range.end range.weights_low in
    omega (arith, ints, is, all.low, all.high)
