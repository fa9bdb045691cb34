-- The squares between a king and a man that checks him, and those behind him, as differences of halves.
use Rattle.std.proofs.Common.{◌≡◌, ℕ, ◌<◌, ◌==◌, Bool, true, false, not, ◌&&◌, ◌||◌, List, ◌∷◌, ltb, refl, sym, ap, ◌∙◌, inl, inr, arith}
use Rattle.std.specs.List.{list_all}
use Rattle.std.specs.Ordering.{nat_cmp}
use Rattle.std.specs.FinSet.{FinSet, contains, difference, contains-difference, union, contains-union, intersection, contains-intersection}
use Rattle.std.proofs.lemmas.Cmp.{nat_cmp_total}
use Rattle.std.proofs.lemmas.Bool.{and_parts, and_from, or_cases, or_left, or_right, cases_Bool, true≢false, not-true, eqb-true, eq-eqb, ne_eqb, lt-ltb}
use Rattle.chess_types.specs.declared.board.axis.Axis.{Axis}
use Rattle.chess_types.specs.declared.board.man.Colour.{Colour}
use Rattle.chess_types.specs.declared.board.man.Man.{Man}
use Rattle.chess_types.specs.board.Board.{Men}
use Rattle.chess_types.specs.board.Men.{opponent}
use Rattle.chess_types.specs.board.Squares.{is_between, line_of}
use Rattle.chess_types.specs.board.Attack.{is_attacked, is_clear, slides_to, attacks_as}
use Rattle.chess_attack.specs.declared.way.Way.{Way}
use Rattle.chess_attack.specs.declared.way.Way.TheVariants.{Up, Down}
use Rattle.chess_attack.specs.steps.Halves.{on_half, opposite}
use Rattle.chess_attack.specs.Pins.{stops}
use Rattle.chess_attack.specs.steps.PinHalves.{round, shaded_on}
use Rattle.chess_attack.specs.steps.Through.{is_attacked_along}
use Rattle.chess_attack.proofs.Axes.{BetweenOn, between_parts, half_parts, half_from, apart_from}
use Rattle.chess_attack.proofs.Cuts.{IsSeen, seen_parts}
use Rattle.chess_attack.proofs.KingSteps.{between_flip, clear_flip}
use Rattle.chess_attack.proofs.Lifted.{attacked_from}
use Rattle.chess_attack.proofs.PinHalves.{round_at}
use Rattle.chess_types.proofs.Runs.{same_test}
use Rattle.chess_attack.proofs.Scans.{in_order}
use Rattle.chess_attack.proofs.Slides.{slides_to_on}
use Rattle.chess_attack.proofs.Walks.{half_between, between_of, half_not_self, half_one_way}

-- four sets in one
pub four_tests : (l a b c d : Bool) → ((((l && a) || (l && b)) || (l && c)) || (l && d)) ≡ (l && (((a || b) || c) || d))
four_tests true a b c d = refl
four_tests false a b c d = refl

pub four_sets :
    (a b c d : FinSet nat_cmp) (s : ℕ) →
    contains (union (union (union a b) c) d) s ≡ (((contains a s || contains b s) || contains c s) || contains d s)
four_sets a b c d s =
    contains-union nat_cmp_total (union (union a b) c) d s
    ∙ ap (λ x. x || contains d s) (contains-union nat_cmp_total (union a b) c s)
    ∙ ap (λ x. (x || contains c s) || contains d s) (contains-union nat_cmp_total a b s)

-- what a half from the king has up to and with the man there
stop_test :
    (axis : Axis) (way : Way) (k a t : ℕ) → k < 64 → a < 64 → on_half axis way k a ≡ true →
    (on_half axis way k t && not (on_half axis way a t)) ≡ stops k a t
stop_test axis way k a t hk ha half = same_test _ _
    (λ h.
    let p : (on_half axis way k t ≡ true) × (not (on_half axis way a t) ≡ true) = and_parts _ _ h in
    elim (in_order axis way k t a p.0 half) [
      | inl nearer ↦ or_right (t == a) (is_between a k t) (between_flip k a t (between_of axis way k t a p.0 nearer))
      | inr (inl same) ↦ or_left (t == a) (is_between a k t) (eq-eqb t a same)
      | inr (inr beyond) ↦ absurd (true≢false (sym beyond ∙ not-true _ p.1))
    ])
    (λ h.
    elim (or_cases (t == a) (is_between a k t) h) [
      | inl same ↦
          let e : a ≡ t = sym (eqb-true t a same) in
          rw (← e) (rw (half, half_not_self axis way a) refl)
      | inr between ↦
          let p : (on_half axis way k t ≡ true) × (on_half axis way t a ≡ true) = half_between axis way k a t hk ha half (between_flip a k t between) in
          elim (cases_Bool (on_half axis way a t)) [
            | inr short ↦ rw (p.0, short) refl
            | inl past ↦ absurd (half_one_way axis way a t past p.1)
          ]
    ])

pub stop_set :
    (axis : Axis) (way : Way) (k a t : ℕ) (near far : FinSet nat_cmp) → k < 64 → a < 64 → on_half axis way k a ≡ true →
    ((s : ℕ) → contains near s ≡ (ltb s 64 && on_half axis way k s)) → ((s : ℕ) → contains far s ≡ (ltb s 64 && on_half axis way a s)) →
    t < 64 → contains (difference near far) t ≡ stops k a t
stop_set axis way k a t near far hk ha half of_near of_far ht =
    contains-difference nat_cmp_total near far t
    ∙ (λ i. of_near t i && not (of_far t i))
    ∙ ap (λ b. (b && on_half axis way k t) && not (b && on_half axis way a t)) (lt-ltb t 64 ht)
    ∙ stop_test axis way k a t hk ha half

-- with a square between, the man stands on a half from the king
far_half : (k a t : ℕ) → is_between a k t ≡ true → (axis : Axis) × ((way : Way) × (on_half axis way k a ≡ true))
far_half k a t h =
    let (j, on) : (j : Axis) × BetweenOn j a k t = between_parts a k t h in
    let line : line_of j k ≡ line_of j a = on.from_b ∙ sym on.from_a in
    elim on.order [
      | inl o ↦ (j, (Down, half_from j Down k a line (omega (arith, o.0, o.1))))
      | inr o ↦ (j, (Up, half_from j Up k a line (omega (arith, o.0, o.1))))
    ]

-- where the man stands on no half, no square lies between
pub stop_alone : (k a t : ℕ) → ((axis : Axis) (way : Way) → on_half axis way k a ≡ false) → (a == t) ≡ stops k a t
stop_alone k a t off =
    let none : is_between a k t ≡ false =
    elim (cases_Bool (is_between a k t)) [
      | inr e ↦ e
      | inl e ↦
          let (axis, (way, on)) : (axis : Axis) × ((way : Way) × (on_half axis way k a ≡ true)) = far_half k a t e in
          absurd (true≢false (sym on ∙ off axis way))
    ] in
    elim (cases_Bool (a == t)) [
      | inl e ↦ let s : (t == a) ≡ true = eq-eqb t a (sym (eqb-true a t e)) in rw (e, s) refl
      | inr e ↦
          let s : (t == a) ≡ false = ne_eqb t a (λ q. true≢false (sym (eq-eqb a t (sym q)) ∙ e)) in
          rw (e, s) (sym none)
    ]

-- the first man on a half, who moves along it, attacks the square
seen_attacks : (man_on : Men) (c : Colour) (k : ℕ) (axis : Axis) (way : Way) → k < 64 → is_attacked_along man_on axis way k (opponent c) ≡ true →
    is_attacked man_on (opponent c) k ≡ true
unfolding attacks_as
seen_attacks man_on c k axis way hk h =
    let (f, m, seen) : (f : ℕ) × (m : Man) × IsSeen man_on axis way k (opponent c) f m = seen_parts man_on axis way k (opponent c) h in
    let p = half_parts axis way k f seen.first.half in
    let along : slides_to m.kind f k ≡ true =
    slides_to_on m.kind axis f k seen.first.on_board hk (λ e. apart_from way k f p.1 (sym e)) (sym p.0) ∙ seen.moves in
    let clear : is_clear man_on f k ≡ true = clear_flip man_on f k ∙ seen.first.clear in
    let attacks : attacks_as m man_on f k ≡ true = or_right _ (slides_to m.kind f k && is_clear man_on f k) (and_from _ _ along clear) in
    attacked_from man_on (opponent c) k f seen.first.on_board (rw (seen.first.holds, seen.mine) attacks)

-- a king who isn't attacked has no shade behind him
pub no_shade : (man_on : Men) (c : Colour) (k s : ℕ) → k < 64 → is_attacked man_on (opponent c) k ≡ false → round (shaded_on man_on c k s) ≡ false
no_shade man_on c k s hk quiet =
    elim (cases_Bool (round (shaded_on man_on c k s))) [
      | inr e ↦ e
      | inl h ↦
          let (axis, (way, on)) : (axis : Axis) × ((way : Way) × (shaded_on man_on c k s axis way ≡ true)) = round_at (shaded_on man_on c k s) h in
          absurd (true≢false (sym (seen_attacks man_on c k axis (opposite way) hk (and_parts _ _ on).0) ∙ quiet))
    ]

-- one man more is stopped
pub stop_next :
    (k to a : ℕ) (old one new : FinSet nat_cmp) (xs ys : List ℕ) (w : Bool) → new ≡ intersection old one → contains one to ≡ stops k a to →
    xs ≡ a ∷ ys → (contains old to && list_all (λ x. stops k x to) xs) ≡ w → (contains new to && list_all (λ x. stops k x to) ys) ≡ w
stop_next k to a old one new xs ys w is stopped first rest =
    ap (λ b. b && list_all (λ x. stops k x to) ys)
    (ap (λ s. contains s to) is ∙ contains-intersection nat_cmp_total old one to ∙ ap (λ b. contains old to && b) stopped)
    ∙ and_join (contains old to) (stops k a to) (list_all (λ x. stops k x to) ys)
    ∙ ap (λ zs. contains old to && list_all (λ x. stops k x to) zs) (sym first)
    ∙ rest
  where
    and_join : (a b c : Bool) → ((a && b) && c) ≡ (a && (b && c))
    and_join true b c = refl
    and_join false b c = refl
