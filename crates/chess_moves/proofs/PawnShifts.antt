-- The moves of many pawns at once: where they step and capture, as their squares shifted.
use Rattle.std.proofs.Common.{◌≡◌, ℕ, ◌+◌, ◌-◌, ◌*◌, ◌/◌, ◌<◌, ◌≤◌, ◌≢◌, ◌==◌, leb, ltb, Bool, true, false, not, ◌&&◌, ◌||◌, Option, Some, None, is_none, is_some, refl, sym, ap, ◌∙◌, arith, inl, inr}
use Rattle.std.specs.Prelude.{sum_by, count_by}
use Rattle.std.specs.List.{list_all, range_with_len}
use Rattle.std.proofs.lemmas.Bool.{and_parts, and_from, cases_Bool, cases_lt, true≢false, eqb-true, eq-eqb, ne_eqb, leb-true, ltb-true, lt-ltb}
use Rattle.std.proofs.lemmas.Bool.Decides.{nat_tests}
use Rattle.std.proofs.Math.Bool.{and-true}
use Rattle.std.specs.Ordering.{nat_cmp}
use Rattle.std.specs.FinSet.{FinSet, contains, intersection, difference, contains-intersection, contains-difference}
use Rattle.std.proofs.lemmas.Cmp.{nat_cmp_total}
use Rattle.chess_types.specs.declared.board.man.Man.{Man}
use Rattle.chess_types.specs.steps.KeptSets.{Gathers}
use Rattle.chess_types.specs.declared.board.man.Colour.{Colour}
use Rattle.chess_types.specs.declared.board.man.Colour.TheVariants.{White, Black}
use Rattle.chess_types.specs.declared.board.man.Kind.TheVariants.{Pawn}
use Rattle.chess_types.specs.board.Squares.{file_of, rank_of, squares}
use Rattle.chess_types.specs.board.Attack.{leaps}
use Rattle.chess_types.specs.board.Position.{PositionParts, man_on}
use Rattle.chess_types.specs.board.Pseudo.{is_ahead, is_capturable, last_rank, pawn_rank, steps_two}
use Rattle.chess_types.proofs.Runs.{list_all_at}
use Rattle.chess_types.proofs.Sums.{bit, total, total-add, total-agree, sum_by-range}
use Rattle.chess_moves.specs.steps.PawnCounts.{shifted, left_file, right_file, square_ahead, may_step_two, single_steps, double_steps, left_captures, right_captures, pair, pairs, plain_moves, size, pawn_moves_to}
use Rattle.chess_moves.specs.steps.Targets.{move_to, is_forward, is_plain_target, promotes}
use Rattle.chess_moves.proofs.SetCounts.{counted_total, size_total}
use Rattle.chess_moves.proofs.Exchange.{Column, exchange}

-- who is so much behind b is found there
shifted_from : (c : Colour) (by a b : ℕ) (test : ℕ → Bool) → a < 64 → test a ≡ true → is_forward c by a b ≡ true → shifted c by test b ≡ true
shifted_from White by a b test ha h f = let e : b ≡ a + by = eqb-true b (a + by) f in let u : b - by ≡ a = omega arith in and_from _ _ (grind (arith, nat_tests)) (ap test u ∙ h)
shifted_from Black by a b test ha h f = let e : a ≡ b + by = eqb-true a (b + by) f in and_from _ _ (lt-ltb (b + by) 64 (omega arith)) (ap test (sym e) ∙ h)

nobody :
    (c : Colour) (by b : ℕ) (test : ℕ → Bool) → shifted c by test b ≡ false → (a : ℕ) → a < 64 → (is_forward c by a b && test a) ≡ false
nobody c by b test h a ha =
    elim (cases_Bool (is_forward c by a b && test a)) [
      | inr e ↦ e
      | inl e ↦ let p = and_parts _ _ e in absurd (true≢false (sym (shifted_from c by a b test ha p.1 p.0) ∙ h))
    ]

pub forward_column : (c : Colour) (by b : ℕ) (test : ℕ → Bool) → b < 64 → Column (λ a. is_forward c by a b && test a) (shifted c by test b)
forward_column White by b test hb = record {
  one = λ h.
      let p : (leb by b ≡ true) × (test (b - by) ≡ true) = and_parts _ _ h in
      let low : by ≤ b = leb-true _ _ p.0 in (
        b - by,
        omega arith,
        and_from _ _ (eq-eqb b (b - by + by) (omega arith)) p.1,
        λ a ha x.
            let e : b ≡ a + by = eqb-true b (a + by) (and_parts _ _ x).0 in omega arith,
      );
  none = λ h. nobody White by b test h;
}
forward_column Black by b test hb = record {
  one = λ h.
      let p : (ltb (b + by) 64 ≡ true) × (test (b + by) ≡ true) = and_parts _ _ h in
      (b + by, ltb-true (b + by) 64 p.0, and_from _ _ (eq-eqb (b + by) (b + by) refl) p.1, λ a ha x. eqb-true a (b + by) (and_parts _ _ x).0);
  none = λ h. nobody Black by b test h;
}

-- THE LAW OF ONE SHIFT: of the pairs of a square that passes a test and the square so much forward of it, those of which the second
-- passes another test are as many as the squares of the shifted set that do.
pub shifted_pairs :
    (c : Colour) (by : ℕ) (test good : ℕ → Bool) →
    total (λ a. total (λ b. bit ((is_forward c by a b && test a) && good b)) 0 64) 0 64 ≡ total (λ b. bit (shifted c by test b && good b)) 0 64
shifted_pairs c by test good =
    exchange (λ a b. is_forward c by a b && test a) (shifted c by test) good (λ b hb. forward_column c by b test hb)

-- ---- a pawn's plain moves, as four shifts

ahead_is : (c : Colour) (a b : ℕ) → is_ahead c a b ≡ is_forward c 8 a b
ahead_is White a b = refl
ahead_is Black a b = refl

-- two forward: over the square halfway
halfway_of : (c : Colour) (a b : ℕ) → is_forward c 16 a b ≡ true → ((a + b) / 2 ≡ square_ahead c a) × (is_ahead c a ((a + b) / 2) ≡ true) × (is_ahead c ((a + b) / 2) b ≡ true)
halfway_of White a b h = let e : b ≡ a + 16 = eqb-true b (a + 16) h in (omega arith, eq-eqb _ _ (omega arith), eq-eqb _ _ (omega arith))
halfway_of Black a b h = let e : a ≡ b + 16 = eqb-true a (b + 16) h in (omega arith, eq-eqb _ _ (omega arith), eq-eqb _ _ (omega arith))

twice_ahead : (c : Colour) (a m b : ℕ) → is_ahead c a m ≡ true → is_ahead c m b ≡ true → is_forward c 16 a b ≡ true
twice_ahead White a m b h g = let e : m ≡ a + 8 = eqb-true m (a + 8) h in let f : b ≡ m + 8 = eqb-true b (m + 8) g in eq-eqb b (a + 16) (omega arith)
twice_ahead Black a m b h g = let e : a ≡ m + 8 = eqb-true a (m + 8) h in let f : m ≡ b + 8 = eqb-true m (b + 8) g in eq-eqb a (b + 16) (omega arith)

pub two_is : (p : PositionParts) (a b : ℕ) → steps_two p (move_to a b None) ≡ (is_forward p.side 16 a b && (may_step_two p a && is_none (man_on p b)))
two_is p a b =
    elim (cases_Bool (is_forward p.side 16 a b)) [
      | inl on ↦
          let (mid, first, second) : ((a + b) / 2 ≡ square_ahead p.side a) × (is_ahead p.side a ((a + b) / 2) ≡ true) × (is_ahead p.side ((a + b) / 2) b ≡ true) = halfway_of p.side a b on in
          rw (first, second, on, and-true, and-true) (ap (λ s. (rank_of a == pawn_rank p.side && is_none (man_on p s)) && is_none (man_on p b)) mid)
      | inr off ↦
          elim (cases_Bool (steps_two p (move_to a b None))) [
            | inr e ↦ e ∙ sym (ap (λ f. f && (may_step_two p a && is_none (man_on p b))) off)
            | inl e ↦
                let c = and_parts _ _ e in
                let d = and_parts _ _ c.0 in
                let f = and_parts _ _ d.0 in
                let g = and_parts _ _ f.0 in
                absurd (true≢false (sym (twice_ahead p.side a ((a + b) / 2) b g.1 f.1) ∙ off))
          ]
    ]

-- a pawn's leaps, by computing
alike : Bool → Bool → Bool
alike true y = y
alike false y = not y

alike_is : (x y : Bool) → alike x y ≡ true → x ≡ y
unfolding alike
alike_is true y h = sym h
alike_is false true h = absurd (true≢false (sym h))
alike_is false false h = refl

abbrev pub takes_left : Colour → ℕ → ℕ → Bool
takes_left c a b = is_forward c 7 a b && not (file_of a == left_file c)

abbrev pub takes_right : Colour → ℕ → ℕ → Bool
takes_right c a b = is_forward c 9 a b && not (file_of a == right_file c)

abbrev leaps_alike : Colour → ℕ → ℕ → Bool
leaps_alike c a b = alike (leaps c Pawn a b) (takes_left c a b || takes_right c a b)

white_leaps : list_all (λ a. list_all (leaps_alike White a) (range_with_len 0 64)) (range_with_len 0 64) ≡ true
unfolding leaps alike
white_leaps = refl

black_leaps : list_all (λ a. list_all (leaps_alike Black a) (range_with_len 0 64)) (range_with_len 0 64) ≡ true
unfolding leaps alike
black_leaps = refl

pub leaps_is : (c : Colour) (a b : ℕ) → a < 64 → b < 64 → leaps c Pawn a b ≡ (takes_left c a b || takes_right c a b)
leaps_is White a b ha hb = alike_is _ _ (list_all_at (leaps_alike White a) 0 64 b (list_all_at (λ x. list_all (leaps_alike White x) (range_with_len 0 64)) 0 64 a white_leaps (omega arith) ha) (omega arith) hb)
leaps_is Black a b ha hb = alike_is _ _ (list_all_at (leaps_alike Black a) 0 64 b (list_all_at (λ x. list_all (leaps_alike Black x) (range_with_len 0 64)) 0 64 a black_leaps (omega arith) ha) (omega arith) hb)

pub plain_is : (p : PositionParts) (a b : ℕ) → a < 64 → b < 64 →
    is_plain_target p Pawn a b
    ≡ (((is_forward p.side 8 a b && is_none (man_on p b)) || (is_forward p.side 16 a b && (may_step_two p a && is_none (man_on p b))))
    || ((takes_left p.side a b || takes_right p.side a b) && is_capturable p.side (man_on p b)))
unfolding is_plain_target
plain_is p a b ha hb =
    (λ i. ((ahead_is p.side a b i && is_none (man_on p b)) || two_is p a b i) || (leaps_is p.side a b ha hb i && is_capturable p.side (man_on p b)))

-- a square is so much forward of another in one way at most
pub one_way : (c : Colour) (by other a b : ℕ) → by ≢ other → is_forward c by a b ≡ true → is_forward c other a b ≡ false
one_way White by other a b ne h = let e : b ≡ a + by = eqb-true b (a + by) h in ne_eqb b (a + other) (omega arith)
one_way Black by other a b ne h = let e : a ≡ b + by = eqb-true a (b + by) h in ne_eqb a (b + other) (omega arith)

abbrev four : Bool → Bool → Bool → Bool → Bool → Bool → Bool → Bool → Bool → Bool → Bool → ℕ
four f8 f16 f7 f9 fr t n i7 i9 cp m =
    bit ((f8 && fr) && (n && m)) + bit ((f16 && (fr && t)) && (n && m)) + bit ((f7 && (fr && i7)) && (cp && m)) + bit ((f9 && (fr && i9)) && (cp && m))

abbrev one_of : Bool → Bool → Bool → Bool → Bool → Bool → Bool → Bool → Bool → Bool → Bool → Bool
one_of f8 f16 f7 f9 fr t n i7 i9 cp m = fr && ((((f8 && n) || (f16 && (t && n))) || (((f7 && i7) || (f9 && i9)) && cp)) && m)

by_eight : (fr t n i7 i9 cp m : Bool) → bit (one_of true false false false fr t n i7 i9 cp m) ≡ four true false false false fr t n i7 i9 cp m
by_eight true t true i7 i9 cp m = omega arith
by_eight true t false i7 i9 cp m = omega arith
by_eight false t n i7 i9 cp m = omega arith

by_sixteen : (fr t n i7 i9 cp m : Bool) → bit (one_of false true false false fr t n i7 i9 cp m) ≡ four false true false false fr t n i7 i9 cp m
by_sixteen true true true i7 i9 cp m = omega arith
by_sixteen true true false i7 i9 cp m = omega arith
by_sixteen true false n i7 i9 cp m = omega arith
by_sixteen false t n i7 i9 cp m = omega arith

by_seven : (fr t n i7 i9 cp m : Bool) → bit (one_of false false true false fr t n i7 i9 cp m) ≡ four false false true false fr t n i7 i9 cp m
by_seven true t n true i9 cp m = omega arith
by_seven true t n false i9 cp m = omega arith
by_seven false t n i7 i9 cp m = omega arith

by_nine : (fr t n i7 i9 cp m : Bool) → bit (one_of false false false true fr t n i7 i9 cp m) ≡ four false false false true fr t n i7 i9 cp m
by_nine true t n i7 true cp m = omega arith
by_nine true t n i7 false cp m = omega arith
by_nine false t n i7 i9 cp m = omega arith

by_none : (fr t n i7 i9 cp m : Bool) → bit (one_of false false false false fr t n i7 i9 cp m) ≡ four false false false false fr t n i7 i9 cp m
by_none true t n i7 i9 cp m = omega arith
by_none false t n i7 i9 cp m = omega arith

four_is : (c : Colour) (a b : ℕ) (fr t n i7 i9 cp m : Bool) →
    let f : ℕ → Bool = λ by. is_forward c by a b in bit (one_of (f 8) (f 16) (f 7) (f 9) fr t n i7 i9 cp m) ≡ four (f 8) (f 16) (f 7) (f 9) fr t n i7 i9 cp m
four_is c a b fr t n i7 i9 cp m =
    elim (cases_Bool (is_forward c 8 a b)) [
      | inl x ↦ rw (x, one_way c 8 16 a b (omega arith) x, one_way c 8 7 a b (omega arith) x, one_way c 8 9 a b (omega arith) x) (by_eight fr t n i7 i9 cp m)
      | inr p8 ↦ elim (cases_Bool (is_forward c 16 a b)) [
        | inl x ↦ rw (p8, x, one_way c 16 7 a b (omega arith) x, one_way c 16 9 a b (omega arith) x) (by_sixteen fr t n i7 i9 cp m)
        | inr p16 ↦ elim (cases_Bool (is_forward c 7 a b)) [
          | inl x ↦ rw (p8, p16, x, one_way c 7 9 a b (omega arith) x) (by_seven fr t n i7 i9 cp m)
          | inr p7 ↦ elim (cases_Bool (is_forward c 9 a b)) [
            | inl x ↦ rw (p8, p16, p7, x) (by_nine fr t n i7 i9 cp m)
            | inr p9 ↦ rw (p8, p16, p7, p9) (by_none fr t n i7 i9 cp m)
          ]
        ]
      ]
    ]

-- ---- all pawns that pass a test

total_four : (f g h k : ℕ → ℕ) (a n : ℕ) → total (λ x. f x + g x + h x + k x) a n ≡ total f a n + total g a n + total h a n + total k a n
total_four f g h k a n =
    total-add (λ x. f x + g x + h x) k a n
    ∙ ap (λ t. t + total k a n) (total-add (λ x. f x + g x) h a n ∙ ap (λ t. t + total h a n) (total-add f g a n))

module _ (p : PositionParts) (free mask : ℕ → Bool) where
  abbrev pair_by : (by : ℕ) (test good : ℕ → Bool) (a b : ℕ) → ℕ
  pair_by by test good a b = bit ((is_forward p.side by a b && test a) && good b)

  row : (a : ℕ) → a < 64 →
      total (λ b. bit (pair p free mask a b)) 0 64
      ≡ total (pair_by 8 free (λ b. is_none (man_on p b) && mask b) a) 0 64
      + total (pair_by 16 (λ x. free x && may_step_two p x) (λ b. is_none (man_on p b) && mask b) a) 0 64
      + total (pair_by 7 (λ x. free x && not (file_of x == left_file p.side)) (λ b. is_capturable p.side (man_on p b) && mask b) a) 0 64
      + total (pair_by 9 (λ x. free x && not (file_of x == right_file p.side)) (λ b. is_capturable p.side (man_on p b) && mask b) a) 0 64
  row a ha =
      total-agree (λ b. bit (pair p free mask a b))
      (λ b. pair_by 8 free (λ b. is_none (man_on p b) && mask b) a b
      + pair_by 16 (λ x. free x && may_step_two p x) (λ b. is_none (man_on p b) && mask b) a b
      + pair_by 7 (λ x. free x && not (file_of x == left_file p.side)) (λ b. is_capturable p.side (man_on p b) && mask b) a b
      + pair_by 9 (λ x. free x && not (file_of x == right_file p.side)) (λ b. is_capturable p.side (man_on p b) && mask b) a b) 0 64
      (λ b low high.
      ap (λ x. bit (free a && (x && mask b))) (plain_is p a b ha (omega arith))
      ∙ four_is p.side a b (free a) (may_step_two p a) (is_none (man_on p b)) (not (file_of a == left_file p.side)) (not (file_of a == right_file p.side))
      (is_capturable p.side (man_on p b)) (mask b))
      ∙ total_four _ _ _ _ 0 64

  -- THE LAW OF PAWNS: the plain moves of all pawns that pass a test are the squares of four shifted sets
  pub pawns_by_shifts :
      total (λ a. total (λ b. bit (pair p free mask a b)) 0 64) 0 64
      ≡ total (λ b. bit (single_steps p free mask b)) 0 64 + total (λ b. bit (double_steps p free mask b)) 0 64 + total (λ b. bit (left_captures p free mask b)) 0 64 + total (λ b. bit (right_captures p free mask b)) 0 64
  pawns_by_shifts =
      total-agree (λ a. total (λ b. bit (pair p free mask a b)) 0 64)
      (λ a. total (pair_by 8 free (λ b. is_none (man_on p b) && mask b) a) 0 64
      + total (pair_by 16 (λ x. free x && may_step_two p x) (λ b. is_none (man_on p b) && mask b) a) 0 64
      + total (pair_by 7 (λ x. free x && not (file_of x == left_file p.side)) (λ b. is_capturable p.side (man_on p b) && mask b) a) 0 64
      + total (pair_by 9 (λ x. free x && not (file_of x == right_file p.side)) (λ b. is_capturable p.side (man_on p b) && mask b) a) 0 64) 0 64
      (λ a low high. row a (omega arith))
      ∙ total_four _ _ _ _ 0 64
      ∙ (λ i.
      shifted_pairs p.side 8 free (λ b. is_none (man_on p b) && mask b) i
      + shifted_pairs p.side 16 (λ x. free x && may_step_two p x) (λ b. is_none (man_on p b) && mask b) i
      + shifted_pairs p.side 7 (λ x. free x && not (file_of x == left_file p.side)) (λ b. is_capturable p.side (man_on p b) && mask b) i
      + shifted_pairs p.side 9 (λ x. free x && not (file_of x == right_file p.side)) (λ b. is_capturable p.side (man_on p b) && mask b) i)

-- ---- as sets of squares

shifted_same : (c : Colour) (by b : ℕ) (f g : ℕ → Bool) → b < 64 → ((a : ℕ) → a < 64 → f a ≡ g a) → shifted c by f b ≡ shifted c by g b
shifted_same White by b f g hb same = ap (λ x. leb by b && x) (same (b - by) (omega arith))
shifted_same Black by b f g hb same =
    elim (cases_lt (b + by) 64) [
      | inl on ↦ ap (λ x. ltb (b + by) 64 && x) (same (b + by) on)
      | inr off ↦ grind (arith, nat_tests)
    ]

and_join : (x y m : Bool) → ((x && y) && m) ≡ (x && (y && m))
and_join true y m = refl
and_join false y m = refl

pub less_and : (all out mask : FinSet nat_cmp) (b : ℕ) → contains (intersection (difference all out) mask) b ≡ (contains all b && (not (contains out b) && contains mask b))
less_and all out mask b =
    contains-intersection nat_cmp_total (difference all out) mask b ∙ ap (λ x. x && contains mask b) (contains-difference nat_cmp_total all out b)
    ∙ and_join (contains all b) (not (contains out b)) (contains mask b)

pub both_and : (all some mask : FinSet nat_cmp) (b : ℕ) → contains (intersection (intersection all some) mask) b ≡ (contains all b && (contains some b && contains mask b))
both_and all some mask b =
    contains-intersection nat_cmp_total (intersection all some) mask b ∙ ap (λ x. x && contains mask b) (contains-intersection nat_cmp_total all some b)
    ∙ and_join (contains all b) (contains some b) (contains mask b)

-- the pawns of one rank, and those not of one file
pub of_rank : (pawns rank : FinSet nat_cmp) (r : ℕ) → ((s : ℕ) → contains rank s ≡ (ltb s 64 && (rank_of s == r))) →
    (a : ℕ) → a < 64 → contains (intersection pawns rank) a ≡ (contains pawns a && rank_of a == r)
of_rank pawns rank r is a ha = contains-intersection nat_cmp_total pawns rank a ∙ ap (λ x. contains pawns a && x) (is a ∙ ap (λ l. l && rank_of a == r) (lt-ltb a 64 ha))

off_file : (pawns file : FinSet nat_cmp) (f : ℕ) → ((s : ℕ) → contains file s ≡ (ltb s 64 && (file_of s == f))) →
    (a : ℕ) → a < 64 → contains (difference pawns file) a ≡ (contains pawns a && not (file_of a == f))
off_file pawns file f is a ha = contains-difference nat_cmp_total pawns file a ∙ ap (λ x. contains pawns a && not x) (is a ∙ ap (λ l. l && file_of a == f) (lt-ltb a 64 ha))

-- two steps, one after the other
double_step :
    (c : Colour) (start empty : ℕ → Bool) (b : ℕ) → b < 64 →
    shifted c 16 (λ a. start a && empty (square_ahead c a)) b ≡ shifted c 8 (λ m. shifted c 8 start m && empty m) b
double_step White start empty b hb =
    elim (cases_lt b 16) [
      | inl under ↦ grind (arith, nat_tests)
      | inr over ↦
          let one : b - 8 - 8 ≡ b - 16 = omega arith in
          let mid : b - 16 + 8 ≡ b - 8 = omega arith in
          rw (one, mid) (grind (arith, nat_tests))
    ]
double_step Black start empty b hb =
    let one : b + 8 + 8 ≡ b + 16 = omega arith in
    let mid : b + 16 - 8 ≡ b + 8 = omega arith in
    rw (one, mid) (grind (arith, nat_tests))

pub steps_twice :
    (c : Colour) (pawns rank once first occupied : FinSet nat_cmp) (b : ℕ) → b < 64 →
    ((s : ℕ) → contains rank s ≡ (ltb s 64 && (rank_of s == pawn_rank c))) →
    ((m : ℕ) → m < 64 → contains once m ≡ shifted c 8 (contains (intersection pawns rank)) m) → first ≡ difference once occupied →
    shifted c 8 (contains first) b ≡ shifted c 16 (λ a. contains pawns a && (rank_of a == pawn_rank c && not (contains occupied (square_ahead c a)))) b
steps_twice c pawns rank once first occupied b hb of_pawn_rank stepped is =
    let start : ℕ → Bool = λ a. contains pawns a && rank_of a == pawn_rank c in
    let empty : ℕ → Bool = λ m. not (contains occupied m) in
    let near : (m : ℕ) → m < 64 → contains first m ≡ (shifted c 8 start m && empty m) =
    λ m hm. ap (λ s. contains s m) is ∙ contains-difference nat_cmp_total once occupied m
    ∙ ap (λ x. x && empty m) (stepped m hm ∙ shifted_same c 8 m (contains (intersection pawns rank)) start hm (of_rank pawns rank (pawn_rank c) of_pawn_rank)) in
    shifted_same c 8 b (contains first) (λ m. shifted c 8 start m && empty m) hb near
    ∙ sym (double_step c start empty b hb)
    ∙ shifted_same c 16 b (λ a. start a && empty (square_ahead c a)) (λ a. contains pawns a && (rank_of a == pawn_rank c && empty (square_ahead c a))) hb
    (λ a ha. and_join (contains pawns a) (rank_of a == pawn_rank c) (empty (square_ahead c a)))

pub captures_inside :
    (c : Colour) (by f : ℕ) (pawns file inner there : FinSet nat_cmp) (b : ℕ) → b < 64 →
    ((s : ℕ) → contains file s ≡ (ltb s 64 && (file_of s == f))) → inner ≡ difference pawns file →
    ((m : ℕ) → m < 64 → contains there m ≡ shifted c by (contains inner) m) →
    contains there b ≡ shifted c by (λ a. contains pawns a && not (file_of a == f)) b
captures_inside c by f pawns file inner there b hb of_file is gone =
    gone b hb ∙ shifted_same c by b (contains inner) (λ a. contains pawns a && not (file_of a == f)) hb
    (λ a ha. ap (λ s. contains s a) is ∙ off_file pawns file f of_file a ha)

-- no man stands where none is
none_there : (o : Option Man) → not (is_some o) ≡ is_none o
none_there None = refl
none_there (Some man) = refl

-- ---- as numbers of moves

pub pairs_total : (p : PositionParts) (free mask : ℕ → Bool) → pairs p free mask ≡ total (λ a. total (λ b. bit (pair p free mask a b)) 0 64) 0 64
unfolding squares
pairs_total p free mask =
    sum_by-range (λ a. sum_by (λ b. bit (pair p free mask a b)) (range_with_len 0 64)) 0 64
    ∙ total-agree (λ a. sum_by (λ b. bit (pair p free mask a b)) (range_with_len 0 64)) (λ a. total (λ b. bit (pair p free mask a b)) 0 64) 0 64
    (λ a low high. sum_by-range (λ b. bit (pair p free mask a b)) 0 64)

-- a set of squares that has those of the test, and those of a longer test
same_size : (has test : ℕ → Bool) → ((b : ℕ) → b < 64 → has b ≡ test b) → size has ≡ total (λ b. bit (test b)) 0 64
same_size has test same = size_total has ∙ total-agree (λ b. bit (has b)) (λ b. bit (test b)) 0 64 (λ b low high. ap bit (same b (omega arith)))

longer : (x y m l : Bool) → ((x && (y && m)) && l) ≡ (x && (y && (m && l)))
longer true true m l = refl
longer true false m l = refl
longer false y m l = refl

pub counted_by_shifts :
    (p : PositionParts) (free mask one two left right : ℕ → Bool) →
    ((b : ℕ) → b < 64 → one b ≡ single_steps p free mask b) → ((b : ℕ) → b < 64 → two b ≡ double_steps p free mask b) →
    ((b : ℕ) → b < 64 → left b ≡ left_captures p free mask b) → ((b : ℕ) → b < 64 → right b ≡ right_captures p free mask b) →
    pawn_moves_to p.side one + pawn_moves_to p.side two + pawn_moves_to p.side left + pawn_moves_to p.side right ≡ plain_moves p free mask
counted_by_shifts p free mask one two left right is_one is_two is_left is_right =
    let last : ℕ → Bool = λ b. mask b && promotes p.side Pawn b in
    let more : (has x y : ℕ → Bool) → ((b : ℕ) → b < 64 → has b ≡ (x b && (y b && mask b))) → size (λ b. has b && promotes p.side Pawn b) ≡ total (λ b. bit (x b && (y b && last b))) 0 64 =
    λ has x y same. same_size (λ b. has b && promotes p.side Pawn b) (λ b. x b && (y b && last b))
    (λ b hb. ap (λ h. h && promotes p.side Pawn b) (same b hb) ∙ longer (x b) (y b) (mask b) (promotes p.side Pawn b)) in
    omega (
      arith,
      same_size one (single_steps p free mask) is_one,
      same_size two (double_steps p free mask) is_two,
      same_size left (left_captures p free mask) is_left,
      same_size right (right_captures p free mask) is_right,
      more one (shifted p.side 8 free) (λ b. is_none (man_on p b)) is_one,
      more two (shifted p.side 16 (λ a. free a && may_step_two p a)) (λ b. is_none (man_on p b)) is_two,
      more left (shifted p.side 7 (λ a. free a && not (file_of a == left_file p.side))) (λ b. is_capturable p.side (man_on p b)) is_left,
      more right (shifted p.side 9 (λ a. free a && not (file_of a == right_file p.side))) (λ b. is_capturable p.side (man_on p b)) is_right,
      pairs_total p free mask,
      pairs_total p free last,
      pawns_by_shifts p free mask,
      pawns_by_shifts p free last,
    )

-- with the sets of the code
pub counted_by_sets :
    (p : PositionParts) (occupied prey free mask one two left right : FinSet nat_cmp) → Gathers occupied is_some (man_on p) →
    ((b : ℕ) → contains prey b ≡ is_capturable p.side (man_on p b)) →
    ((b : ℕ) → b < 64 → contains one b ≡ (shifted p.side 8 (contains free) b && (not (contains occupied b) && contains mask b))) →
    ((b : ℕ) → b < 64 → contains two b ≡ (shifted p.side 16 (λ a. contains free a && (rank_of a == pawn_rank p.side && not (contains occupied (square_ahead p.side a)))) b && (not (contains occupied b) && contains mask b))) →
    ((b : ℕ) → b < 64 → contains left b ≡ (shifted p.side 7 (λ a. contains free a && not (file_of a == left_file p.side)) b && (contains prey b && contains mask b))) →
    ((b : ℕ) → b < 64 → contains right b ≡ (shifted p.side 9 (λ a. contains free a && not (file_of a == right_file p.side)) b && (contains prey b && contains mask b))) →
    pawn_moves_to p.side (contains one) + pawn_moves_to p.side (contains two) + pawn_moves_to p.side (contains left) + pawn_moves_to p.side (contains right)
    ≡ plain_moves p (contains free) (contains mask)
counted_by_sets p occupied prey free mask one two left right men captured is_one is_two is_left is_right =
    let empty : (b : ℕ) → not (contains occupied b) ≡ is_none (man_on p b) = λ b. ap not (men b) ∙ none_there (man_on p b) in
    counted_by_shifts p (contains free) (contains mask) (contains one) (contains two) (contains left) (contains right)
    (λ b hb. is_one b hb ∙ ap (λ x. shifted p.side 8 (contains free) b && (x && contains mask b)) (empty b))
    (λ b hb. is_two b hb
    ∙ ap (λ x. shifted p.side 16 (λ a. contains free a && (rank_of a == pawn_rank p.side && not (contains occupied (square_ahead p.side a)))) b && (x && contains mask b)) (empty b)
    ∙ ap (λ x. x && (is_none (man_on p b) && contains mask b))
    (shifted_same p.side 16 b (λ a. contains free a && (rank_of a == pawn_rank p.side && not (contains occupied (square_ahead p.side a)))) (λ a. contains free a && may_step_two p a) hb
    (λ a ha. ap (λ x. contains free a && (rank_of a == pawn_rank p.side && x)) (empty (square_ahead p.side a)))))
    (λ b hb. is_left b hb ∙ ap (λ x. shifted p.side 7 (λ a. contains free a && not (file_of a == left_file p.side)) b && (x && contains mask b)) (captured b))
    (λ b hb. is_right b hb ∙ ap (λ x. shifted p.side 9 (λ a. contains free a && not (file_of a == right_file p.side)) b && (x && contains mask b)) (captured b))

-- a set's size
pub moves_counted :
    (side : Colour) (set last both : FinSet nat_cmp) (n m : ℕ) → n ≡ count_by (contains set) squares → m ≡ count_by (contains both) squares →
    both ≡ intersection set last → ((s : ℕ) → contains last s ≡ (ltb s 64 && rank_of s == last_rank side)) →
    n + 3 * m ≡ pawn_moves_to side (contains set)
moves_counted side set last both n m counted counted_both is is_last =
    let more : size (λ b. contains set b && promotes side Pawn b) ≡ total (λ b. bit (contains both b)) 0 64 =
    same_size (λ b. contains set b && promotes side Pawn b) (contains both)
    (λ b hb. sym (ap (λ x. contains x b) is ∙ contains-intersection nat_cmp_total set last b
    ∙ ap (λ x. contains set b && x) (is_last b ∙ ap (λ l. l && rank_of b == last_rank side) (lt-ltb b 64 hb)))) in
    omega (arith, counted_total set n counted, counted_total both m counted_both, size_total (contains set), more)
