-- Where a man may go, by sets of squares: what he may enter, and a pawn's steps.
use Rattle.std.proofs.Common.{◌≡◌, ℕ, ◌+◌, ◌/◌, ◌<◌, ◌==◌, Bool, true, false, not, ◌&&◌, ◌||◌, Option, Some, None, is_none, ltb, refl, sym, ap, ◌∙◌, arith, inl, inr}
use Rattle.std.proofs.lemmas.Bool.{and_parts, and_from, cases_Bool, true≢false, eqb-true, eq-eqb, lt-ltb}
use Rattle.std.proofs.lemmas.Bool.Decides.{nat_tests}
use Rattle.std.proofs.Math.Bool.{and-false}
use Rattle.std.specs.Ordering.{nat_cmp}
use Rattle.std.specs.FinSet.{FinSet, contains, difference, intersection, contains-difference, contains-intersection}
use Rattle.std.proofs.lemmas.Cmp.{nat_cmp_total}
use Rattle.chess_types.specs.declared.board.man.Colour.{Colour}
use Rattle.chess_types.specs.declared.board.man.Colour.TheVariants.{White, Black}
use Rattle.chess_types.specs.declared.board.man.Man.{Man}
use Rattle.chess_types.specs.board.Squares.{rank_of}
use Rattle.chess_types.specs.steps.KeptSets.{Gathers}
use Rattle.chess_types.specs.board.Men.{same_colour, opponent, is_of, is_king, is_king_of}
use Rattle.chess_types.specs.board.Position.{PositionParts, man_on}
use Rattle.chess_types.specs.board.Pseudo.{is_ahead, is_capturable, may_enter, pawn_rank, steps_one, steps_two}
use Rattle.chess_types.proofs.Runs.{same_test}
use Rattle.chess_moves.specs.steps.Targets.{move_to}

-- who may be captured, and where a man may come, by colours and kings
prey_of : (c side : Colour) (kingly : Bool) → (same_colour c (opponent side) && not (same_colour c (opponent side) && kingly)) ≡ (not (same_colour c side) && not kingly)
prey_of White White kingly = refl
prey_of White Black kingly = refl
prey_of Black White kingly = refl
prey_of Black Black kingly = refl

pub prey_is : (side : Colour) (there : Option Man) → (is_of (opponent side) there && not (is_king_of (opponent side) there)) ≡ is_capturable side there
prey_is side None = refl
prey_is side (Some man) = prey_of man.colour side (is_king man.kind)

enter_of : (c side : Colour) (kingly : Bool) → (not (same_colour c side) && not (same_colour c (opponent side) && kingly)) ≡ (not (same_colour c side) && not kingly)
enter_of White White kingly = refl
enter_of White Black kingly = refl
enter_of Black White kingly = refl
enter_of Black Black kingly = refl

pub enter_is : (side : Colour) (there : Option Man) → (not (is_of side there) && not (is_king_of (opponent side) there)) ≡ may_enter side there
enter_is side None = refl
enter_is side (Some man) = enter_of man.colour side (is_king man.kind)

and_join : (a b c : Bool) → ((a && b) && c) ≡ (a && (b && c))
and_join true b c = refl
and_join false b c = refl

-- so for sets: those attacked, the men of one's own side, and the other side's king
pub enter_set :
    (p : PositionParts) (attacked : ℕ → Bool) (other : Colour) (all own kings : FinSet nat_cmp) (to : ℕ) → other ≡ opponent p.side → to < 64 →
    contains all to ≡ attacked to → Gathers own (is_of p.side) (man_on p) → Gathers kings (is_king_of other) (man_on p) →
    contains (difference (difference all own) kings) to ≡ (attacked to && may_enter p.side (man_on p to))
enter_set p attacked other all own kings to is ht of_all of_own of_kings =
    contains-difference nat_cmp_total (difference all own) kings to
    ∙ ap (λ b. b && not (contains kings to)) (contains-difference nat_cmp_total all own to)
    ∙ (λ i. (of_all i && not (of_own to i)) && not (of_kings to i))
    ∙ ap (λ c. (attacked to && not (is_of p.side (man_on p to))) && not (is_king_of c (man_on p to))) is
    ∙ and_join (attacked to) (not (is_of p.side (man_on p to))) (not (is_king_of (opponent p.side) (man_on p to)))
    ∙ ap (λ b. attacked to && b) (enter_is p.side (man_on p to))

pub prey_set :
    (p : PositionParts) (aside : ℕ → Bool) (other : Colour) (all men kings : FinSet nat_cmp) (to : ℕ) → other ≡ opponent p.side → to < 64 →
    contains all to ≡ (ltb to 64 && aside to) → Gathers men (is_of other) (man_on p) → Gathers kings (is_king_of other) (man_on p) →
    contains (difference (intersection all men) kings) to ≡ (aside to && is_capturable p.side (man_on p to))
prey_set p aside other all men kings to is ht of_all of_men of_kings =
    contains-difference nat_cmp_total (intersection all men) kings to
    ∙ ap (λ b. b && not (contains kings to)) (contains-intersection nat_cmp_total all men to)
    ∙ (λ i. (of_all i && of_men to i) && not (of_kings to i))
    ∙ ap (λ l. ((l && aside to) && is_of other (man_on p to)) && not (is_king_of other (man_on p to))) (lt-ltb to 64 ht)
    ∙ ap (λ c. (aside to && is_of c (man_on p to)) && not (is_king_of c (man_on p to))) is
    ∙ and_join (aside to) (is_of (opponent p.side) (man_on p to)) (not (is_king_of (opponent p.side) (man_on p to)))
    ∙ ap (λ b. aside to && b) (prey_is p.side (man_on p to))

-- ---- a pawn's steps

-- at most one square lies ahead
pub ahead_one : (c : Colour) (a one to : ℕ) → is_ahead c a one ≡ true → is_ahead c a to ≡ (one == to)
ahead_one White a one to h = let e : one ≡ a + 8 = eqb-true one (a + 8) h in grind (arith, nat_tests)
ahead_one Black a one to h = let e : a ≡ one + 8 = eqb-true a (one + 8) h in grind (arith, nat_tests)

-- the square halfway to the one after it
ahead_two :
    (c : Colour) (a one to : ℕ) → is_ahead c a one ≡ true → (is_ahead c a ((a + to) / 2) && is_ahead c ((a + to) / 2) to) ≡ is_ahead c one to
ahead_two White a one to h =
    let e : one ≡ a + 8 = eqb-true one (a + 8) h in
    same_test _ _
    (λ g.
    let p : (((a + to) / 2 == a + 8) ≡ true) × ((to == (a + to) / 2 + 8) ≡ true) = and_parts _ _ g in
    let u : (a + to) / 2 ≡ a + 8 = eqb-true _ _ p.0 in
    let v : to ≡ (a + to) / 2 + 8 = eqb-true _ _ p.1 in
    eq-eqb to (one + 8) (omega arith))
    (λ g.
    let v : to ≡ one + 8 = eqb-true to (one + 8) g in
    and_from _ _ (eq-eqb ((a + to) / 2) (a + 8) (omega arith)) (eq-eqb to ((a + to) / 2 + 8) (omega arith)))
ahead_two Black a one to h =
    let e : a ≡ one + 8 = eqb-true a (one + 8) h in
    same_test _ _
    (λ g.
    let p : ((a == (a + to) / 2 + 8) ≡ true) × (((a + to) / 2 == to + 8) ≡ true) = and_parts _ _ g in
    let u : a ≡ (a + to) / 2 + 8 = eqb-true _ _ p.0 in
    let v : (a + to) / 2 ≡ to + 8 = eqb-true _ _ p.1 in
    eq-eqb one (to + 8) (omega arith))
    (λ g.
    let v : one ≡ to + 8 = eqb-true one (to + 8) g in
    and_from _ _ (eq-eqb a ((a + to) / 2 + 8) (omega arith)) (eq-eqb ((a + to) / 2) (to + 8) (omega arith)))

halfway : (c : Colour) (a one to : ℕ) → is_ahead c a one ≡ true → is_ahead c one to ≡ true → (a + to) / 2 ≡ one
halfway White a one to h g = let e : one ≡ a + 8 = eqb-true one (a + 8) h in let v : to ≡ one + 8 = eqb-true to (one + 8) g in omega arith
halfway Black a one to h g = let e : a ≡ one + 8 = eqb-true a (one + 8) h in let v : one ≡ to + 8 = eqb-true one (to + 8) g in omega arith

not_itself : (c : Colour) (a : ℕ) → is_ahead c a a ≡ false
not_itself White a = grind (arith, nat_tests)
not_itself Black a = grind (arith, nat_tests)

five_off : (r a b n m : Bool) → (a && b) ≡ false → ((((r && a) && b) && n) && m) ≡ false
five_off true true b n m h = rw h refl
five_off true false b n m h = refl
five_off false a b n m h = refl

five_on : (r a b n m : Bool) → (a && b) ≡ true → ((((r && a) && b) && n) && m) ≡ (n && (r && m))
five_on true true true true m h = refl
five_on true true true false m h = refl
five_on false true true true m h = refl
five_on false true true false m h = refl
five_on r true false n m h = absurd (true≢false (sym h))
five_on r false b n m h = absurd (true≢false (sym h))

pub steps_are :
    (p : PositionParts) (a one to : ℕ) → is_ahead p.side a one ≡ true →
    (steps_one p (move_to a to None) || steps_two p (move_to a to None))
    ≡ (is_none (man_on p one) && ((one == to) || (rank_of a == pawn_rank p.side && (is_ahead p.side one to && is_none (man_on p to)))))
steps_are p a one to h =
    let mid : ℕ = (a + to) / 2 in
    let single : is_ahead p.side a to ≡ (one == to) = ahead_one p.side a one to h in
    let twice : (is_ahead p.side a mid && is_ahead p.side mid to) ≡ is_ahead p.side one to = ahead_two p.side a one to h in
    let r : Bool = rank_of a == pawn_rank p.side in
    elim (cases_Bool (one == to)) [
      | inl same ↦
          let e : one ≡ to = eqb-true one to same in
          let far : is_ahead p.side one to ≡ false = ap (is_ahead p.side one) (sym e) ∙ not_itself p.side one in
          let two : steps_two p (move_to a to None) ≡ false =
          five_off r (is_ahead p.side a mid) (is_ahead p.side mid to) (is_none (man_on p mid)) (is_none (man_on p to)) (twice ∙ far) in
          let one' : steps_one p (move_to a to None) ≡ is_none (man_on p one) =
          ap (λ b. b && is_none (man_on p to)) (single ∙ same) ∙ ap (λ s. is_none (man_on p s)) (sym e) in
          (λ i. one' i || two i) ∙ last_off (is_none (man_on p one)) ∙ rw same (sym (kept (is_none (man_on p one))))
      | inr other ↦
          let one' : steps_one p (move_to a to None) ≡ false = ap (λ b. b && is_none (man_on p to)) (single ∙ other) in
          elim (cases_Bool (is_ahead p.side one to)) [
            | inr far ↦
                let two : steps_two p (move_to a to None) ≡ false =
                five_off r (is_ahead p.side a mid) (is_ahead p.side mid to) (is_none (man_on p mid)) (is_none (man_on p to)) (twice ∙ far) in
                (λ i. one' i || two i) ∙ rw (other, far, and-false (rank_of a == pawn_rank p.side)) (sym (and-false (is_none (man_on p one))))
            | inl on ↦
                let e : mid ≡ one = halfway p.side a one to h on in
                let two : steps_two p (move_to a to None) ≡ (is_none (man_on p mid) && (r && is_none (man_on p to))) =
                five_on r (is_ahead p.side a mid) (is_ahead p.side mid to) (is_none (man_on p mid)) (is_none (man_on p to)) (twice ∙ on) in
                (λ i. one' i || two i) ∙ ap (λ s. is_none (man_on p s) && (r && is_none (man_on p to))) e ∙ rw (other, on) refl
          ]
    ]
  where
    last_off : (x : Bool) → (x || false) ≡ x
    last_off true = refl
    last_off false = refl

    kept : (x : Bool) → (x && true) ≡ x
    kept true = refl
    kept false = refl

-- where no square lies ahead
pub steps_nowhere :
    (p : PositionParts) (a to : ℕ) → a < 64 → to < 64 → ((s : ℕ) → s < 64 → is_ahead p.side a s ≡ false) →
    (steps_one p (move_to a to None) || steps_two p (move_to a to None)) ≡ false
steps_nowhere p a to ha ht none =
    let one' : steps_one p (move_to a to None) ≡ false = ap (λ b. b && is_none (man_on p to)) (none to ht) in
    let two : steps_two p (move_to a to None) ≡ false =
    five_off (rank_of a == pawn_rank p.side) (is_ahead p.side a ((a + to) / 2)) (is_ahead p.side ((a + to) / 2) to) (is_none (man_on p ((a + to) / 2))) (is_none (man_on p to))
    (ap (λ b. b && is_ahead p.side ((a + to) / 2) to) (none ((a + to) / 2) (omega arith))) in
    (λ i. one' i || two i)

-- the second step
pub second_step :
    (p : PositionParts) (one two to : ℕ) → is_ahead p.side one two ≡ true → (is_ahead p.side one to && is_none (man_on p to)) ≡ ((two == to) && is_none (man_on p two))
second_step p one two to h =
    ap (λ b. b && is_none (man_on p to)) (ahead_one p.side one two to h)
    ∙ (elim (cases_Bool (two == to)) [
      | inl same ↦ rw same (ap (λ s. is_none (man_on p s)) (sym (eqb-true two to same)))
      | inr other ↦ rw other refl
    ])
