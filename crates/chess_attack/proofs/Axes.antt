-- The axes and their halves, by arithmetic: what the tests of squares mean, and that two squares share one axis at most.
use Rattle.std.proofs.Common.{◌≡◌, ◌==◌, ℕ, ◌<◌, ◌≢◌, nat_lt, true, false, ◌&&◌, ◌||◌, refl, sym, subst, ◌∙◌, arith, inl, inr, ◌⊎◌}
use Rattle.chess_attack.specs.declared.way.Way.{Way}
use Rattle.chess_attack.specs.declared.way.Way.TheVariants.{Up, Down}
use Rattle.chess_types.specs.declared.board.axis.Axis.{Axis}
use Rattle.chess_types.specs.declared.board.axis.Axis.TheVariants.{Rank, File, Rising, Falling}
use Rattle.std.proofs.lemmas.Bool.{and_parts, or_cases, cases_Bool, eqb-true, ltb-true, lt-ltb, eq-eqb, and_from}
use Rattle.std.proofs.lemmas.Bool.Decides.{nat_tests}
use Rattle.chess_types.specs.board.Squares.{line_of, is_between_on, is_between}
use Rattle.chess_attack.specs.steps.Halves.{on_half, is_towards}

-- two squares share at most one axis
pub axes_meet :
    (j k : Axis) (a b : ℕ) → a < 64 → b < 64 → a ≢ b → line_of j a ≡ line_of j b → line_of k a ≡ line_of k b → j ≡ k
axes_meet Rank Rank a b ha hb ne p q = refl
axes_meet File File a b ha hb ne p q = refl
axes_meet Rising Rising a b ha hb ne p q = refl
axes_meet Falling Falling a b ha hb ne p q = refl
axes_meet _ _ a b ha hb ne p q = absurd (omega arith)

-- t is strictly between a and b on that axis
pub record BetweenOn (axis : Axis) (a b t : ℕ) : Type 0 where
  pub from_a : line_of axis a ≡ line_of axis t
  pub from_b : line_of axis b ≡ line_of axis t
  pub order : ((a < t) × (t < b)) ⊎ ((b < t) × (t < a))

-- the test of it, as the facts, and back
pub between_on_parts : (axis : Axis) (a b t : ℕ) → is_between_on axis a b t ≡ true → BetweenOn axis a b t
between_on_parts axis a b t h =
    let p : (line_of axis a == line_of axis t && line_of axis b == line_of axis t ≡ true)
    × (((nat_lt a t && nat_lt t b) || (nat_lt b t && nat_lt t a)) ≡ true) =
    and_parts _ _ h in
    let q : (line_of axis a == line_of axis t ≡ true) × (line_of axis b == line_of axis t ≡ true) = and_parts _ _ p.0 in
    record {
      from_a = eqb-true _ _ q.0;
      from_b = eqb-true _ _ q.1;
      order = elim (or_cases _ _ p.1) [
        | inl r ↦
            let v : (nat_lt a t ≡ true) × (nat_lt t b ≡ true) = and_parts _ _ r in
            inl (ltb-true a t v.0, ltb-true t b v.1)
        | inr r ↦
            let v : (nat_lt b t ≡ true) × (nat_lt t a ≡ true) = and_parts _ _ r in
            inr (ltb-true b t v.0, ltb-true t a v.1)
      ];
    }

pub between_on_from : (axis : Axis) (a b t : ℕ) → BetweenOn axis a b t → is_between_on axis a b t ≡ true
between_on_from axis a b t h = grind (arith, nat_tests)

-- strictly between, as one axis' facts, and back
pub between_parts : (a b t : ℕ) → is_between a b t ≡ true → (axis : Axis) × BetweenOn axis a b t
unfolding is_between
between_parts a b t h =
    elim (or_cases _ _ h) [
      | inr falling ↦ (Falling, between_on_parts Falling a b t falling)
      | inl more ↦
          elim (or_cases _ _ more) [
            | inr rising ↦ (Rising, between_on_parts Rising a b t rising)
            | inl straight ↦
                elim (or_cases _ _ straight) [
                  | inr on_file ↦ (File, between_on_parts File a b t on_file)
                  | inl on_rank ↦ (Rank, between_on_parts Rank a b t on_rank)
                ]
          ]
    ]

pub between_from : (axis : Axis) (a b t : ℕ) → BetweenOn axis a b t → is_between a b t ≡ true
unfolding is_between
between_from Rank a b t h = rw (between_on_from Rank a b t h) refl
between_from File a b t h = let e = between_on_from File a b t h in grind (arith, e)
between_from Rising a b t h = let e = between_on_from Rising a b t h in grind (arith, e)
between_from Falling a b t h = let e = between_on_from Falling a b t h in grind (arith, e)

-- the order that a way means
abbrev pub Towards : Way → ℕ → ℕ → Type 0
Towards Up a s = a < s
Towards Down a s = s < a

pub towards_parts : (way : Way) (a s : ℕ) → is_towards way a s ≡ true → Towards way a s
towards_parts Up a s h = ltb-true a s h
towards_parts Down a s h = ltb-true s a h

pub towards_from : (way : Way) (a s : ℕ) → Towards way a s → is_towards way a s ≡ true
towards_from Up a s h = lt-ltb a s h
towards_from Down a s h = lt-ltb s a h

-- the test of a half, as the facts, and back
pub half_parts : (axis : Axis) (way : Way) (a s : ℕ) → on_half axis way a s ≡ true → (line_of axis a ≡ line_of axis s) × Towards way a s
unfolding on_half
half_parts axis way a s h =
    let p : (line_of axis a == line_of axis s ≡ true) × (is_towards way a s ≡ true) = and_parts _ _ h in
    (eqb-true _ _ p.0, towards_parts way a s p.1)

pub half_from : (axis : Axis) (way : Way) (a s : ℕ) → line_of axis a ≡ line_of axis s → Towards way a s → on_half axis way a s ≡ true
unfolding on_half
half_from axis way a s e t = and_from _ _ (eq-eqb _ _ e) (towards_from way a s t)

-- two squares of a half are apart
pub apart_from : (way : Way) (a s : ℕ) → Towards way a s → a ≢ s
apart_from Up a s h = omega arith
apart_from Down a s h = omega arith

-- a square between two of an axis is on that axis
pub on_the_axis :
    (axis : Axis) (way : Way) (at s : ℕ) → at < 64 → s < 64 → on_half axis way at s ≡ true →
    (j : Axis) (t : ℕ) → BetweenOn j at s t → BetweenOn axis at s t
on_the_axis axis way at s hat hs half j t b =
    let h : (line_of axis at ≡ line_of axis s) × Towards way at s = half_parts axis way at s half in
    let same : j ≡ axis = axes_meet j axis at s hat hs (apart_from way at s h.1) (b.from_a ∙ sym b.from_b) h.0 in
    subst (λ x. BetweenOn x at s t) same b

-- no square is on both halves of an axis
pub other_way : (axis : Axis) (at s : ℕ) → on_half axis Up at s ≡ true → on_half axis Down at s ≡ true → ⊥
other_way axis at s up down =
    let p : (line_of axis at ≡ line_of axis s) × (at < s) = half_parts axis Up at s up in
    let q : (line_of axis at ≡ line_of axis s) × (s < at) = half_parts axis Down at s down in
    omega (arith, p.1, q.1)

-- no square is on halves of two axes
pub other_axis :
    (axis : Axis) (way : Way) (at s : ℕ) → at < 64 → s < 64 → on_half axis way at s ≡ true → (j : Axis) (w : Way) → j ≢ axis →
    on_half j w at s ≡ false
other_axis axis way at s hat hs half j w other =
    elim (cases_Bool (on_half j w at s)) [
      | inl on ↦
          let p : (line_of axis at ≡ line_of axis s) × Towards way at s = half_parts axis way at s half in
          let q : (line_of j at ≡ line_of j s) × Towards w at s = half_parts j w at s on in
          absurd (other (axes_meet j axis at s hat hs (apart_from way at s p.1) q.0 p.0))
      | inr off ↦ off
    ]
