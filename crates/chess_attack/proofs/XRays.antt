-- The first man on one half decides what is opened or closed on the other.
use Rattle.std.proofs.Common.{◌≡◌, ℕ, true, false, ◌&&◌, Option, Some, None, is_some, refl, sym, ap, ◌∙◌, inl, inr}
use Rattle.std.proofs.Common.{None, ◌<◌, ltb, nat_eq}
use Rattle.std.specs.Ordering.{nat_cmp}
use Rattle.std.specs.FinSet.{FinSet, contains, intersection, empty, len, contains-intersection, contains-empty, empty_of_len}
use Rattle.std.proofs.lemmas.Cmp.{nat_cmp_total}
use Rattle.std.proofs.lemmas.Bool.{eqb-true, lt-ltb}
use Rattle.chess_types.specs.declared.board.axis.Axis.TheVariants.{Rank, File, Rising, Falling}
use Rattle.chess_types.specs.declared.board.man.Kind.{Kind}
use Rattle.chess_types.specs.declared.board.man.Kind.TheVariants.{Pawn}
use Rattle.chess_types.specs.steps.KeptSets.{Gathers}
use Rattle.chess_attack.specs.steps.Halves.{on_half}
use Rattle.std.proofs.Math.Bool.{and-true, and-false}
use Rattle.std.proofs.lemmas.Bool.{and_from, cases_Bool, cases_eq, true≢false}
use Rattle.chess_types.specs.declared.board.axis.Axis.{Axis}
use Rattle.chess_types.specs.declared.board.man.Colour.{Colour}
use Rattle.chess_types.specs.declared.board.man.Man.{Man}
use Rattle.chess_types.specs.board.Board.{Men}
use Rattle.chess_types.specs.board.Men.{same_colour}
use Rattle.chess_types.specs.board.Squares.{line_of}
use Rattle.chess_types.specs.board.Attack.{slides}
use Rattle.chess_attack.specs.declared.way.Way.{Way}
use Rattle.chess_attack.specs.steps.Halves.{opposite}
use Rattle.chess_attack.specs.steps.Marks.{swept}
use Rattle.chess_attack.specs.steps.Through.{IsFirstAt, IsBare, movers, is_slider, is_attacked_along, cut_on}
use Rattle.chess_attack.proofs.Axes.{between_from, Towards, half_parts}
use Rattle.chess_attack.proofs.Clear.{clear_at}
use Rattle.chess_attack.proofs.Cuts.{IsSeen, seen_from, seen_parts}
use Rattle.chess_types.proofs.Runs.{same_test}
use Rattle.chess_attack.proofs.Through.{order_nearer}

some_not_none : (man_on : Men) (f : ℕ) → is_some (man_on f) ≡ true → man_on f ≡ None → ⊥
some_not_none man_on f h e = true≢false (sym h ∙ ap is_some e)

-- there is one first man
pub first_once :
    (man_on : Men) (axis : Axis) (way : Way) (at f g : ℕ) → IsFirstAt man_on axis way at f → IsFirstAt man_on axis way at g → f ≡ g
first_once man_on axis way at f g hf hg =
    let pf : (line_of axis at ≡ line_of axis f) × Towards way at f = half_parts axis way at f hf.half in
    let pg : (line_of axis at ≡ line_of axis g) × Towards way at g = half_parts axis way at g hg.half in
    elim (cases_eq f g) [
      | inl same ↦ same
      | inr other ↦ absurd (
          elim (order_nearer way at f g pf.1 pg.1 other) [
            | inl near ↦ some_not_none man_on f hf.holds (clear_at man_on at g f hg.clear hf.on_board
                (between_from axis at g f (record { from_a = pf.0; from_b = sym pg.0 ∙ pf.0; order = near })))
            | inr far ↦ some_not_none man_on g hg.holds (clear_at man_on at f g hf.clear hg.on_board
                (between_from axis at f g (record { from_a = pg.0; from_b = sym pf.0 ∙ pg.0; order = far })))
          ])
    ]

-- so what is seen is decided by it
pub seen_is :
    (man_on : Men) (axis : Axis) (way : Way) (at f : ℕ) (m : Man) (c : Colour) → IsFirstAt man_on axis way at f → man_on f ≡ Some m →
    is_attacked_along man_on axis way at c ≡ (same_colour m.colour c && slides m.kind axis)
seen_is man_on axis way at f m c first holds = same_test _ _
    (λ h.
    let (g, n, seen) : (g : ℕ) × (n : Man) × IsSeen man_on axis way at c g n = seen_parts man_on axis way at c h in
    let other : IsFirstAt man_on axis way at g = record {
      on_board = seen.first.on_board;
      half = seen.first.half;
      clear = seen.first.clear;
      holds = rw seen.first.holds refl;
    } in
    let same : f ≡ g = first_once man_on axis way at f g first other in
    let man : Some m ≡ Some n = sym holds ∙ ap man_on same ∙ seen.first.holds in
    let e : m ≡ n = cc in
    rw e (and_from _ _ seen.mine seen.moves))
    (λ h. seen_from man_on axis way at c f first.on_board (and_from _ _ first.half first.clear) (rw holds h))

pub first_sees : (man_on : Men) (axis : Axis) (way : Way) (at f : ℕ) (c : Colour) → IsFirstAt man_on axis way at f →
    is_attacked_along man_on axis way at c ≡ is_slider (man_on f) axis c
first_sees man_on axis way at f c first = by_man (man_on f) refl
  where
    by_man : (there : Option Man) → man_on f ≡ there → is_attacked_along man_on axis way at c ≡ is_slider there axis c
    by_man None none = absurd (true≢false (sym first.holds ∙ ap is_some none))
    by_man (Some man) some = seen_is man_on axis way at f man c first some

-- and on a bare half nothing is seen
pub seen_bare :
    (man_on : Men) (axis : Axis) (way : Way) (at : ℕ) (c : Colour) → IsBare man_on axis way at → is_attacked_along man_on axis way at c ≡ false
seen_bare man_on axis way at c b =
    elim (cases_Bool (is_attacked_along man_on axis way at c)) [
      | inl h ↦
          let (g, n, seen) : (g : ℕ) × (n : Man) × IsSeen man_on axis way at c g n = seen_parts man_on axis way at c h in
          let e : man_on g ≡ None = b.bare g seen.first.on_board seen.first.half in
          let h' : man_on g ≡ Some n = seen.first.holds in cc
      | inr h ↦ h
    ]

-- the attack that goes through `at` is what he sweeps from there, if he moves along the axis
pub relit :
    (man_on : Men) (axis : Axis) (way : Way) (at f : ℕ) (m : Man) → IsFirstAt man_on axis (opposite way) at f → man_on f ≡ Some m →
    slides m.kind axis ≡ true → (c : Colour) (s : ℕ) → swept m.colour man_on axis way at c s ≡ cut_on man_on axis way at c s
relit man_on axis way at f m first holds moves c s =
    let e : is_attacked_along man_on axis (opposite way) at c ≡ (same_colour m.colour c && slides m.kind axis) =
    seen_is man_on axis (opposite way) at f m c first holds in
    rw (e, moves, and-true) refl

-- and else there is none
pub unlit :
    (man_on : Men) (axis : Axis) (way : Way) (at f : ℕ) (m : Man) → IsFirstAt man_on axis (opposite way) at f → man_on f ≡ Some m →
    slides m.kind axis ≡ false → (c : Colour) (s : ℕ) → cut_on man_on axis way at c s ≡ 0
unlit man_on axis way at f m first holds still c s =
    let e : is_attacked_along man_on axis (opposite way) at c ≡ (same_colour m.colour c && slides m.kind axis) =
    seen_is man_on axis (opposite way) at f m c first holds in
    rw (e, still, and-false) refl

-- nor is there one from a bare half
pub unlit_bare :
    (man_on : Men) (axis : Axis) (way : Way) (at : ℕ) → IsBare man_on axis (opposite way) at → (c : Colour) (s : ℕ) → cut_on man_on axis way at c s ≡ 0
unlit_bare man_on axis way at b c s = rw (seen_bare man_on axis (opposite way) at c b) refl

-- a man who moves along the axis is one of those that are kept for it, and no other is
pub mover_is : (axis : Axis) (kind : Kind) (mine : Colour) → movers axis (Some (record { colour = mine; kind = kind })) ≡ slides kind axis
unfolding slides
mover_is Rank Pawn mine = refl
mover_is File Pawn mine = refl
mover_is Rising Pawn mine = refl
mover_is Falling Pawn mine = refl
mover_is _ _ mine = refl

mover : (axis : Axis) (m : Man) → slides m.kind axis ≡ true → movers axis (Some m) ≡ true
mover axis m h = mover_is axis m.kind m.colour ∙ h

-- where none of those stands on a half, nothing is seen there
pub seen_no_mover :
    (man_on : Men) (axis : Axis) (way : Way) (at : ℕ) (c : Colour) →
    ((s : ℕ) → s < 64 → on_half axis way at s ≡ true → movers axis (man_on s) ≡ false) → is_attacked_along man_on axis way at c ≡ false
seen_no_mover man_on axis way at c none =
    elim (cases_Bool (is_attacked_along man_on axis way at c)) [
      | inl h ↦
          let (g, n, seen) : (g : ℕ) × (n : Man) × IsSeen man_on axis way at c g n = seen_parts man_on axis way at c h in
          let off : movers axis (man_on g) ≡ false = none g seen.first.on_board seen.first.half in
          let on : movers axis (man_on g) ≡ true = ap (movers axis) seen.first.holds ∙ mover axis n seen.moves in
          absurd (true≢false (sym on ∙ off))
      | inr h ↦ h
    ]

-- the sets of a placement tell so
pub seen_no_set :
    (man_on : Men) (axis : Axis) (way : Way) (at : ℕ) (half sliders : FinSet nat_cmp) →
    ((s : ℕ) → contains half s ≡ (ltb s 64 && on_half axis way at s)) → Gathers sliders (movers axis) man_on →
    nat_eq (len (intersection half sliders)) 0 ≡ true → (c : Colour) → is_attacked_along man_on axis way at c ≡ false
seen_no_set man_on axis way at half sliders of_half of_sliders none c =
    let bare : intersection half sliders ≡ empty = empty_of_len (intersection half sliders) (eqb-true _ _ none) in
    seen_no_mover man_on axis way at c (λ s hs on.
    let out : contains (intersection half sliders) s ≡ false = ap (λ t. contains t s) bare ∙ contains-empty nat_cmp s in
    let e : (contains half s && contains sliders s) ≡ false = sym (contains-intersection nat_cmp_total half sliders s) ∙ out in
    let h : contains half s ≡ true = of_half s ∙ rw (lt-ltb s 64 hs, on) refl in
    sym (of_sliders s) ∙ rw h at e)
