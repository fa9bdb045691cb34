-- One step along an axis.
use Rattle.std.proofs.Common.{◌≡◌, ℕ, ◌+◌, ◌<◌, ◌≤◌, ◌≢◌, sym, ◌∙◌, arith, inl, inr}
use Rattle.std.proofs.lemmas.Bool.{cases_Bool, cases_eq}
use Rattle.chess_attack.specs.declared.way.Way.{Way}
use Rattle.chess_attack.specs.declared.way.Way.TheVariants.{Up, Down}
use Rattle.chess_types.specs.declared.board.axis.Axis.{Axis}
use Rattle.chess_types.specs.declared.board.axis.Axis.TheVariants.{Rank, File, Rising, Falling}
use Rattle.chess_types.specs.board.Squares.{line_of}
use Rattle.chess_attack.specs.steps.Halves.{on_half, half_length, stride, stepped, IsNext, IsEnd}
use Rattle.chess_attack.proofs.Axes.{Towards, half_parts, half_from}

-- the target's place, and that the rest of the half is beyond it
record StepsTo (axis : Axis) (way : Way) (at t : ℕ) : Type 0 where
  on_board : t < 64
  line_is : line_of axis at ≡ line_of axis t
  order : Towards way at t
  nearest : (s : ℕ) → s < 64 → line_of axis at ≡ line_of axis s → Towards way at s → s ≢ t → Towards way t s
  shorter : half_length axis way at ≡ half_length axis way t + 1

steps_to : (axis : Axis) (way : Way) (at : ℕ) → at < 64 → 0 < half_length axis way at → StepsTo axis way at (stepped way at (stride axis))
steps_to Rank Up at h more = record { on_board = omega arith; line_is = omega arith; order = omega arith; nearest = λ s hs e o ne. omega arith; shorter = omega arith }
steps_to File Up at h more = record { on_board = omega arith; line_is = omega arith; order = omega arith; nearest = λ s hs e o ne. omega arith; shorter = omega arith }
steps_to Rising Up at h more = record { on_board = omega arith; line_is = omega arith; order = omega arith; nearest = λ s hs e o ne. omega arith; shorter = omega arith }
steps_to Falling Up at h more = record { on_board = omega arith; line_is = omega arith; order = omega arith; nearest = λ s hs e o ne. omega arith; shorter = omega arith }
steps_to _ _ at h more = record { on_board = omega arith; line_is = omega arith; order = omega arith; nearest = λ s hs e o ne. omega arith; shorter = omega arith }

-- where the half has a square, one stride leads to the next
pub step_next : (axis : Axis) (way : Way) (at : ℕ) → at < 64 → 0 < half_length axis way at → IsNext axis way at (stepped way at (stride axis))
step_next axis way at h more =
    let t : ℕ = stepped way at (stride axis) in
    let to : StepsTo axis way at t = steps_to axis way at h more in
    record {
      on_board = to.on_board;
      next = half_from axis way at t to.line_is to.order;
      nearest = λ s hs half.
          let p : (line_of axis at ≡ line_of axis s) × Towards way at s = half_parts axis way at s half in
          elim (cases_eq s t) [
            | inl same ↦ inl same
            | inr other ↦ inr (half_from axis way t s (sym to.line_is ∙ p.0) (to.nearest s hs p.0 p.1 other))
          ];
      shorter = to.shorter;
    }

-- a half of length 0 has no square
ends : (axis : Axis) (way : Way) (at : ℕ) → at < 64 → half_length axis way at ≡ 0 → (s : ℕ) → s < 64 → line_of axis at ≡ line_of axis s → Towards way at s → ⊥
ends Rank Up at h zero s hs e o = omega arith
ends File Up at h zero s hs e o = omega arith
ends Rising Up at h zero s hs e o = omega arith
ends Falling Up at h zero s hs e o = omega arith
ends _ _ at h zero s hs e o = omega arith

-- where it has none, it ends
pub step_end : (axis : Axis) (way : Way) (at : ℕ) → at < 64 → half_length axis way at ≡ 0 → IsEnd axis way at
step_end axis way at h short = record {
  none = λ s hs.
      elim (cases_Bool (on_half axis way at s)) [
        | inl half ↦
            let p : (line_of axis at ≡ line_of axis s) × Towards way at s = half_parts axis way at s half in
            absurd (ends axis way at h short s hs p.0 p.1)
        | inr off ↦ off
      ];
  length = short;
}

-- a step down stays on the board
pub step_room : (axis : Axis) (at : ℕ) → at < 64 → 0 < half_length axis Down at → stride axis ≤ at
step_room Rank at h more = omega arith
step_room _ at h more = omega arith

pub stride_small : (axis : Axis) → stride axis ≤ 9
stride_small Rank = omega arith
stride_small _ = omega arith

-- what `step` needs of its two halves
pub ruleset steps = (step_next, step_end, step_room, stride_small)
