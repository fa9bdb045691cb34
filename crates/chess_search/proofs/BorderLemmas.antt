-- Values of mates, and those far from any.
use Rattle.std.proofs.Common.{◌≡◌, inl, inr, subst, arith, ℤ, pos, neg_ℤ, ◌<ℤ◌, ◌≤ℤ◌, ◌-ℤ◌, ℕ, ◌≤◌}
use Rattle.std.proofs.lemmas.Int.{ints, clamps, by_lt_z}
use Rattle.std.specs.Int.{int_min, int_max}
use Rattle.chess_search.specs.Scores.{IsValue, IsApart}
use Rattle.chess_search.specs.steps.Windows.{IsDecided}

-- seen from the other side
pub apart_negated : (a b : ℤ) → b ≡ neg_ℤ a → IsApart a → IsApart b
apart_negated a b e (inl far) = inl (record { low = omega (arith, ints, e, far.high); high = omega (arith, ints, e, far.low) })
apart_negated a b e (inr (inl low)) = inr (inr (omega (arith, ints, e, low)))
apart_negated a b e (inr (inr high)) = inr (inl (omega (arith, ints, e, high)))

-- the greater of two, of which the first is no value yet where it's the least of all
pub apart_next : (a b next : ℤ) → (neg_ℤ (pos 30001) <ℤ a → IsApart a) → neg_ℤ (pos 30000) ≤ℤ b → IsApart b → next ≡ int_max a b → IsApart next
apart_next a b next first low second e =
    by_lt_z a b
    (λ less. let is : b ≡ next = omega (arith, ints, clamps) in subst IsApart is second)
    (λ more. let is : a ≡ next = omega (arith, ints, clamps) in subst IsApart is (first (omega (arith, ints))))

-- mated, so many moves from the root
pub apart_mated : (distance : ℕ) (v : ℤ) → v ≡ pos distance -ℤ pos 30000 → distance ≤ 16 → IsApart v
apart_mated distance v e near = inr (inl (omega (arith, ints, e, near)))

-- a draw is far from any mate
apart_drawn : IsApart (pos 0)
apart_drawn = inl (record { low = omega (arith, ints); high = omega (arith, ints) })

-- a draw and an evaluation, both no less than the window's end, or no more than its beginning
pub decided_low : (alpha beta e answer : ℤ) → IsValue e → IsApart e → answer ≡ int_min e (pos 0) → alpha <ℤ beta → beta ≤ℤ answer → IsDecided alpha beta e answer
decided_low alpha beta e answer value far is window over = record {
  draw = record { upper = λ h. omega (arith, ints); lower = λ h. omega (arith, ints, clamps, is) };
  evaluated = record { upper = λ h. omega (arith, ints); lower = λ h. omega (arith, ints, clamps, is) };
  in_range = record { low = omega (arith, ints, clamps, is, value.low); high = omega (arith, ints, clamps, is, value.high) };
  border = by_lt_z e (pos 0)
      (λ less. let same : e ≡ answer = omega (arith, ints, clamps, is) in subst IsApart same far)
      (λ more. let same : pos 0 ≡ answer = omega (arith, ints, clamps, is) in subst IsApart same apart_drawn);
}

pub decided_high : (alpha beta e answer : ℤ) → IsValue e → IsApart e → answer ≡ int_max e (pos 0) → alpha <ℤ beta → answer ≤ℤ alpha → IsDecided alpha beta e answer
decided_high alpha beta e answer value far is window under = record {
  draw = record { upper = λ h. omega (arith, ints, clamps, is); lower = λ h. omega (arith, ints) };
  evaluated = record { upper = λ h. omega (arith, ints, clamps, is); lower = λ h. omega (arith, ints) };
  in_range = record { low = omega (arith, ints, clamps, is, value.low); high = omega (arith, ints, clamps, is, value.high) };
  border = by_lt_z e (pos 0)
      (λ less. let same : pos 0 ≡ answer = omega (arith, ints, clamps, is) in subst IsApart same apart_drawn)
      (λ more. let same : e ≡ answer = omega (arith, ints, clamps, is) in subst IsApart same far);
}
