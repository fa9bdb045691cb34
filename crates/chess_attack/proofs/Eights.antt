-- The eight halves of the axes through a square: a square is on one of them at most, and together they have at most 27 squares.
use Rattle.std.proofs.Common.{◌≡◌, ◌∙◌, ℕ, ◌+◌, ◌<◌, ◌≤◌, ◌≢◌, true, false, arith, inl, inr, ◌⊎◌}
use Rattle.std.proofs.lemmas.Bool.{cases_Bool, false_from_ne_true}
use Rattle.chess_types.specs.declared.board.axis.Axis.{Axis}
use Rattle.chess_types.specs.declared.board.axis.Axis.TheVariants.{Rank, File, Rising, Falling}
use Rattle.chess_attack.specs.declared.way.Way.{Way}
use Rattle.chess_attack.specs.declared.way.Way.TheVariants.{Up, Down}
use Rattle.chess_attack.specs.steps.Halves.{on_half, half_length}
use Rattle.chess_attack.proofs.Axes.{other_way, other_axis}

neither : (axis : Axis) (at s : ℕ) → on_half axis Up at s ≡ false → on_half axis Down at s ≡ false → (way : Way) → on_half axis way at s ≡ false
neither axis at s not_up not_down Up = not_up
neither axis at s not_up not_down Down = not_down

-- one of the two halves of an axis, or neither
half_of :
    (axis : Axis) (at s : ℕ) → ((way : Way) × (on_half axis way at s ≡ true)) ⊎ ((way : Way) → on_half axis way at s ≡ false)
half_of axis at s =
    elim (cases_Bool (on_half axis Up at s)) [
      | inl up ↦ inl (Up, up)
      | inr not_up ↦
          elim (cases_Bool (on_half axis Down at s)) [
            | inl down ↦ inl (Down, down)
            | inr not_down ↦ inr (neither axis at s not_up not_down)
          ]
    ]

no_half :
    (at s : ℕ) → ((way : Way) → on_half Rank way at s ≡ false) → ((way : Way) → on_half File way at s ≡ false) →
    ((way : Way) → on_half Rising way at s ≡ false) → ((way : Way) → on_half Falling way at s ≡ false) →
    (axis : Axis) (way : Way) → on_half axis way at s ≡ false
no_half at s a b c d Rank = a
no_half at s a b c d File = b
no_half at s a b c d Rising = c
no_half at s a b c d Falling = d

-- s is on one of the eight halves, or on none
pub some_half :
    (at s : ℕ) → ((axis : Axis) × ((way : Way) × (on_half axis way at s ≡ true))) ⊎ ((axis : Axis) (way : Way) → on_half axis way at s ≡ false)
some_half at s =
    elim (half_of Rank at s) [
      | inl on ↦ inl (Rank, on)
      | inr a ↦
          elim (half_of File at s) [
            | inl on ↦ inl (File, on)
            | inr b ↦
                elim (half_of Rising at s) [
                  | inl on ↦ inl (Rising, on)
                  | inr c ↦
                      elim (half_of Falling at s) [
                        | inl on ↦ inl (Falling, on)
                        | inr d ↦ inr (no_half at s a b c d)
                      ]
                ]
          ]
    ]

-- the sum of what the two halves of an axis give, and of what all eight do
abbrev pub pair : (Axis → Way → ℕ) → Axis → ℕ
pair g axis = g axis Up + g axis Down

abbrev pub eight : (Axis → Way → ℕ) → ℕ
eight g = pair g Rank + pair g File + pair g Rising + pair g Falling

module _ (g : Axis → Way → ℕ) (at s : ℕ) (off : (axis : Axis) (way : Way) → on_half axis way at s ≡ false → g axis way ≡ 0) where
  pair_off : (axis : Axis) → ((way : Way) → on_half axis way at s ≡ false) → pair g axis ≡ 0
  pair_off axis h = omega (arith, off axis Up (h Up), off axis Down (h Down))

  pair_on : (axis : Axis) (way : Way) → on_half axis way at s ≡ true → pair g axis ≡ g axis way
  pair_on axis Up half = omega (arith, off axis Down (false_from_ne_true _ (λ down. other_way axis at s half down)))
  pair_on axis Down half = omega (arith, off axis Up (false_from_ne_true _ (λ up. other_way axis at s up half)))

  -- where the other axes give nothing
  only_pair : (axis : Axis) → ((j : Axis) → j ≢ axis → pair g j ≡ 0) → eight g ≡ pair g axis
  only_pair Rank none = omega (arith, none File (λ e. cc), none Rising (λ e. cc), none Falling (λ e. cc))
  only_pair File none = omega (arith, none Rank (λ e. cc), none Rising (λ e. cc), none Falling (λ e. cc))
  only_pair Rising none = omega (arith, none Rank (λ e. cc), none File (λ e. cc), none Falling (λ e. cc))
  only_pair Falling none = omega (arith, none Rank (λ e. cc), none File (λ e. cc), none Rising (λ e. cc))

  -- where s is on one of the halves, the others give nothing
  pub eight_on : (axis : Axis) (way : Way) → at < 64 → s < 64 → on_half axis way at s ≡ true → eight g ≡ g axis way
  eight_on axis way hat hs half =
      only_pair axis (λ j ne. pair_off j (λ w. other_axis axis way at s hat hs half j w ne)) ∙ pair_on axis way half

  pub eight_off : ((axis : Axis) (way : Way) → on_half axis way at s ≡ false) → eight g ≡ 0
  eight_off h = omega (arith, pair_off Rank (h Rank), pair_off File (h File), pair_off Rising (h Rising), pair_off Falling (h Falling))

-- the eight halves together have at most 27 squares
pub halves_short : (at : ℕ) → at < 64 → eight (λ axis way. half_length axis way at) ≤ 27
halves_short at h = omega arith
