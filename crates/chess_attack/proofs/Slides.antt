-- What a sliding man attacks is what it sweeps on the eight halves through its square, each square once.
use Rattle.std.proofs.Common.{◌≡◌, ◌==◌, ℕ, ◌<◌, ◌≢◌, true, false, not, ◌||◌, refl, sym, subst, ◌∙◌, arith, inl, inr}
use Rattle.std.proofs.Math.Bool.{and-false}
use Rattle.std.proofs.lemmas.Bool.{and_parts, or_cases, and_from, cases_Bool, true≢false, eqb-true, eqb-false, eq-eqb, ne_eqb, not-true, cases_order}
use Rattle.chess_types.specs.declared.board.axis.Axis.{Axis}
use Rattle.chess_types.specs.declared.board.axis.Axis.TheVariants.{Rank, File, Rising, Falling}
use Rattle.chess_types.specs.declared.board.man.Colour.{Colour}
use Rattle.chess_types.specs.declared.board.man.Kind.{Kind}
use Rattle.chess_types.specs.declared.board.man.Man.{Man}
use Rattle.chess_types.specs.board.Board.{Men}
use Rattle.chess_types.specs.board.Squares.{line_of}
use Rattle.chess_types.specs.board.Attack.{leaps, slides, slides_on, slides_to, attacks_as}
use Rattle.chess_attack.specs.declared.way.Way.{Way}
use Rattle.chess_attack.specs.declared.way.Way.TheVariants.{Up, Down}
use Rattle.chess_attack.specs.steps.Halves.{on_half}
use Rattle.chess_attack.specs.steps.Marks.{own, slide_on, slide}
use Rattle.chess_attack.proofs.Axes.{axes_meet, apart_from, Towards, half_parts, half_from}
use Rattle.chess_attack.proofs.Eights.{some_half, eight_on, eight_off}
use Rattle.chess_types.proofs.Runs.{same_test}

-- a kind that slides along one axis from a to b moves along whichever axis they share
slides_along :
    (kind : Kind) (j axis : Axis) (a b : ℕ) → a < 64 → b < 64 → a ≢ b → line_of axis a ≡ line_of axis b →
    slides_on kind j a b ≡ true → slides kind axis ≡ true
slides_along kind j axis a b ha hb ne e h =
    let p : (slides kind j ≡ true) × (line_of j a == line_of j b ≡ true) = and_parts _ _ h in
    let same : j ≡ axis = axes_meet j axis a b ha hb ne (eqb-true _ _ p.1) e in
    subst (λ x. slides kind x ≡ true) same p.0

slides_to_from : (kind : Kind) (axis : Axis) (a b : ℕ) → (a == b) ≡ false → slides_on kind axis a b ≡ true → slides_to kind a b ≡ true
unfolding slides_to
slides_to_from k Rank a b apart on = rw (apart, on) refl
slides_to_from k File a b apart on = grind (arith, apart, on)
slides_to_from k Rising a b apart on = grind (arith, apart, on)
slides_to_from k Falling a b apart on = grind (arith, apart, on)

-- sliding, as the axis that it goes along
slides_to_parts :
    (kind : Kind) (a b : ℕ) → slides_to kind a b ≡ true → (a ≢ b) × ((axis : Axis) × (slides_on kind axis a b ≡ true))
unfolding slides_to
slides_to_parts kind a b h =
    let p : (not (a == b) ≡ true) × ((slides_on kind Rank a b || slides_on kind File a b || slides_on kind Rising a b || slides_on kind Falling a b) ≡ true) =
    and_parts _ _ h in (
      eqb-false a b (not-true _ p.0),
      elim (or_cases _ _ p.1) [
        | inr falling ↦ (Falling, falling)
        | inl more ↦
            elim (or_cases _ _ more) [
              | inr rising ↦ (Rising, rising)
              | inl straight ↦
                  elim (or_cases _ _ straight) [
                    | inr on_file ↦ (File, on_file)
                    | inl on_rank ↦ (Rank, on_rank)
                  ]
            ]
      ],
    )

-- two squares of an axis: a kind that moves along it slides from one to the other, and no other kind does
pub slides_to_on :
    (kind : Kind) (axis : Axis) (a b : ℕ) → a < 64 → b < 64 → a ≢ b → line_of axis a ≡ line_of axis b →
    slides_to kind a b ≡ slides kind axis
slides_to_on kind axis a b ha hb ne e = same_test _ _
    (λ h.
    let (apart, (j, on)) : (a ≢ b) × ((j : Axis) × (slides_on kind j a b ≡ true)) = slides_to_parts kind a b h in
    slides_along kind j axis a b ha hb ne e on)
    (λ h. slides_to_from kind axis a b (ne_eqb a b ne) (and_from _ _ h (eq-eqb _ _ e)))

-- where s is on no half through `at`, nobody slides there
pub slides_off : (kind : Kind) (at s : ℕ) → ((axis : Axis) (way : Way) → on_half axis way at s ≡ false) → slides_to kind at s ≡ false
slides_off kind at s off =
    elim (cases_Bool (slides_to kind at s)) [
      | inr e ↦ e
      | inl along ↦
          let (apart, (j, on)) : (at ≢ s) × ((j : Axis) × (slides_on kind j at s ≡ true)) = slides_to_parts kind at s along in
          let p : (slides kind j ≡ true) × (line_of j at == line_of j s ≡ true) = and_parts _ _ on in
          absurd (elim (cases_order at s) [
            | inl same ↦ apart same
            | inr other ↦
                elim other [
                  | inl up ↦ true≢false (sym (half_from j Up at s (eqb-true _ _ p.1) up) ∙ off j Up)
                  | inr down ↦ true≢false (sym (half_from j Down at s (eqb-true _ _ p.1) down) ∙ off j Down)
                ]
          ])
    ]

-- what a man without leaps attacks is what it slides to, half by half
pub slide_is_own :
    (man : Man) (man_on : Men) (at : ℕ) (c : Colour) (s : ℕ) → at < 64 → s < 64 → leaps man.colour man.kind at s ≡ false →
    slide man man_on at c s ≡ own man man_on at c s
unfolding attacks_as
slide_is_own man man_on at c s hat hs still =
    let g : Axis → Way → ℕ = λ axis way. slide_on man man_on axis way at c s in
    let off : (axis : Axis) (way : Way) → on_half axis way at s ≡ false → g axis way ≡ 0 =
    λ axis way h. rw (h, and-false, and-false) refl in
    elim (some_half at s) [
      | inl on ↦
          let (axis, (way, half)) : (axis : Axis) × ((way : Way) × (on_half axis way at s ≡ true)) = on in
          let all : slide man man_on at c s ≡ slide_on man man_on axis way at c s = eight_on g at s off axis way hat hs half in
          let p : (line_of axis at ≡ line_of axis s) × Towards way at s = half_parts axis way at s half in
          let same : slides_to man.kind at s ≡ slides man.kind axis =
          slides_to_on man.kind axis at s hat hs (apart_from way at s p.1) p.0 in
          let here : slide_on man man_on axis way at c s ≡ own man man_on at c s = rw (half, still, same) refl in
          all ∙ here
      | inr none ↦
          let nothing : slide man man_on at c s ≡ 0 = eight_off g at s off none in
          let never : own man man_on at c s ≡ 0 = rw (still, slides_off man.kind at s none, and-false) refl in
          nothing ∙ sym never
    ]
