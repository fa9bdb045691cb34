-- A walk from `at` along a half of an axis: it stands on `here`, and all that it has passed is empty.
use Rattle.std.proofs.Common.{◌≡◌, ℕ, ◌<◌, true, false, Option, Some, None, is_some, refl, sym, ◌∙◌, arith, inl, inr, ◌⊎◌}
use Rattle.std.proofs.lemmas.Bool.{cases_Bool, true≢false}
use Rattle.chess_attack.specs.declared.way.Way.{Way}
use Rattle.chess_attack.specs.declared.way.Way.TheVariants.{Up, Down}
use Rattle.chess_types.specs.declared.board.axis.Axis.{Axis}
use Rattle.chess_types.specs.declared.board.man.Man.{Man}
use Rattle.chess_types.specs.board.Squares.{line_of, is_between}
use Rattle.chess_types.specs.board.Board.{Men}
use Rattle.chess_attack.specs.steps.Halves.{on_half}
use Rattle.chess_attack.proofs.Axes.{BetweenOn, between_parts, between_from, Towards, half_parts, half_from, on_the_axis}

towards_trans : (way : Way) (a b c : ℕ) → Towards way a b → Towards way b c → Towards way a c
towards_trans Up a b c p q = omega arith
towards_trans Down a b c p q = omega arith

towards_not_self : (way : Way) (a : ℕ) → Towards way a a → ⊥
towards_not_self Up a p = omega arith
towards_not_self Down a p = omega arith

towards_between :
    (way : Way) (a s t : ℕ) → Towards way a s → ((a < t) × (t < s)) ⊎ ((s < t) × (t < a)) → Towards way a t × Towards way t s
towards_between Up a s t h o = grind arith
towards_between Down a s t h o = grind arith

-- a half's half lies on it
pub half_trans :
    (axis : Axis) (way : Way) (a b c : ℕ) → on_half axis way a b ≡ true → on_half axis way b c ≡ true → on_half axis way a c ≡ true
half_trans axis way a b c p q =
    let p' : (line_of axis a ≡ line_of axis b) × Towards way a b = half_parts axis way a b p in
    let q' : (line_of axis b ≡ line_of axis c) × Towards way b c = half_parts axis way b c q in
    half_from axis way a c (p'.0 ∙ q'.0) (towards_trans way a b c p'.1 q'.1)

-- no square lies beyond itself
pub half_not_self : (axis : Axis) (way : Way) (a : ℕ) → on_half axis way a a ≡ false
half_not_self axis way a =
    elim (cases_Bool (on_half axis way a a)) [
      | inl half ↦ absurd (towards_not_self way a (half_parts axis way a a half).1)
      | inr off ↦ off
    ]

-- of two squares only one lies beyond the other
pub half_one_way : (axis : Axis) (way : Way) (a b : ℕ) → on_half axis way a b ≡ true → on_half axis way b a ≡ true → ⊥
half_one_way axis way a b p q = true≢false (sym (half_trans axis way a b a p q) ∙ half_not_self axis way a)

-- a square strictly between lies on the half, and the far one beyond it
pub half_between :
    (axis : Axis) (way : Way) (at s t : ℕ) → at < 64 → s < 64 → on_half axis way at s ≡ true → is_between at s t ≡ true →
    (on_half axis way at t ≡ true) × (on_half axis way t s ≡ true)
half_between axis way at s t hat hs half between =
    let (j, b) : (j : Axis) × BetweenOn j at s t = between_parts at s t between in
    let c : BetweenOn axis at s t = on_the_axis axis way at s hat hs half j t b in
    let o : Towards way at t × Towards way t s = towards_between way at s t (half_parts axis way at s half).1 c.order in
    (half_from axis way at t c.from_a o.0, half_from axis way t s (sym c.from_b) o.1)

-- a square beyond `at`, and another beyond that: the first is strictly between
order_of : (way : Way) (at t s : ℕ) → Towards way at t → Towards way t s → ((at < t) × (t < s)) ⊎ ((s < t) × (t < at))
order_of Up at t s p q = inl (p, q)
order_of Down at t s p q = inr (q, p)

pub between_of :
    (axis : Axis) (way : Way) (at t s : ℕ) → on_half axis way at t ≡ true → on_half axis way t s ≡ true → is_between at s t ≡ true
between_of axis way at t s p q =
    let p' : (line_of axis at ≡ line_of axis t) × Towards way at t = half_parts axis way at t p in
    let q' : (line_of axis t ≡ line_of axis s) × Towards way t s = half_parts axis way t s q in
    between_from axis at s t (record { from_a = p'.0; from_b = sym q'.0; order = order_of way at t s p'.1 q'.1 })

-- no man, by the test
pub none_since : (o : Option Man) → is_some o ≡ false → o ≡ None
none_since None h = refl
none_since (Some m) h = cc

-- a walk from `at` that stands on `here`
pub record Walked (man_on : Men) (axis : Axis) (way : Way) (at here : ℕ) : Type 0 where
  pub from_board : at < 64
  pub on_board : here < 64
  pub beyond : (s : ℕ) → s < 64 → on_half axis way here s ≡ true → on_half axis way at s ≡ true
  pub bare : (s : ℕ) → s < 64 → on_half axis way at s ≡ true → on_half axis way here s ≡ false → man_on s ≡ None
