-- How the sums of a board change with one square, and how large they can be.
use Rattle.std.proofs.Common.{◌≡◌, ◌≢◌, ℕ, ◌<◌, ℤ, pos, ◌≤◌, ◌+◌, ◌+ℤ◌, ◌-ℤ◌, Option, Some, None, refl, sym, ap, subst, ◌∙◌, add-one, arith}
use Rattle.std.proofs.lemmas.Int.{ints}
use Rattle.std.specs.Ordering.{nat_cmp}
use Rattle.std.specs.FinMap.{get, insert, remove, empty, get-empty}
use Rattle.chess_types.specs.declared.board.man.Man.{Man}
use Rattle.chess_types.specs.board.Board.{Board, Men, man_at}
use Rattle.chess_types.specs.board.Squares.{squares}
use Rattle.chess_types.proofs.BoardLaws.{boards}
use Rattle.chess_attack.proofs.Replaces.{put-again}
use Rattle.chess_eval.specs.Worth.{middle_of, end_of}
use Rattle.chess_eval.specs.Evaluation.{balance_there, weight_there, over_board, Sums, sums_of, IsWithin}
use Rattle.chess_eval.specs.steps.Changes.{AreInRange, plus, with_man, without_man}
use Rattle.chess_eval.proofs.Sums.{run, run-none, run-more, run-zero, run-one, run-low, run-high}
use Rattle.chess_eval.proofs.SmallWorths.{end_within, middle_within, negated, negative, weight_small, weight_within}

-- three equal numbers
pub same_sums : {a b : Sums} → a.middle ≡ b.middle → a.end ≡ b.end → a.weights ≡ b.weights → a ≡ b
same_sums m e w = λ i. record { middle = m i; end = e i; weights = w i }

-- the numbers of equal sums
pub record AreSame (a b : Sums) : Type 0 where
  pub middle : a.middle ≡ b.middle
  pub end : a.end ≡ b.end
  pub weights : a.weights ≡ b.weights

pub same_parts : {a b : Sums} → a ≡ b → AreSame a b
same_parts same = record { middle = ap (λ (s : Sums). s.middle) same; end = ap (λ (s : Sums). s.end) same; weights = ap (λ (s : Sums). s.weights) same }

-- with the negatives of what a man counts, the sums are those without him
pub without_is : (sums : Sums) (man : Man) (square : ℕ) {middle end weight : ℤ} → square < 64 → middle ≡ balance_there middle_of (Some man) square →
    end ≡ balance_there end_of (Some man) square → weight ≡ weight_there (Some man) square →
    plus sums (negative middle) (negative end) (negative weight) ≡ without_man sums man square
without_is sums man square h m e w = λ i.
    plus sums (negated (middle_within (Some man) square h) m i) (negated (end_within (Some man) square h) e i) (negated (weight_within man.kind) w i)

-- a number for what stands on a square, and none where nothing does
abbrev Number : Type 0
Number = Option Man → ℕ → ℤ

abbrev IsNoneEmpty : Number → Type 0
IsNoneEmpty number = (square : ℕ) → number None square ≡ pos 0

abbrev on : Number → Men → ℕ → ℤ
on number man_on square = number (man_on square) square

pub over_board_is_run : (number : Number) (man_on : Men) → over_board number man_on ≡ run (λ s. number (man_on s) s) 0 64
unfolding over_board squares run
over_board_is_run number man_on = refl

-- two boards that differ on one square alone
over_board-one :
    (number : Number) (before after : Men) (at : ℕ) → at < 64 → ((t : ℕ) → t ≢ at → after t ≡ before t) →
    over_board number after +ℤ number (before at) at ≡ over_board number before +ℤ number (after at) at
over_board-one number before after at h rest =
    let change : run (on number after) 0 64 +ℤ on number before at ≡ run (on number before) 0 64 +ℤ on number after at =
    run-one (on number after) (on number before) 0 64 at (omega arith) (omega arith) (λ t apart. ap (λ there. number there t) (rest t apart)) in
    omega (arith, ints, change, over_board_is_run number before, over_board_is_run number after)

-- a man more
over_board-put :
    (number : Number) → IsNoneEmpty number → (board : Board) (at : ℕ) (man : Man) → at < 64 → get board at ≡ None →
    over_board number (man_at (insert board at man)) ≡ over_board number (man_at board) +ℤ number (Some man) at
over_board-put number nothing board at man h none =
    let change = over_board-one number (man_at board) (man_at (insert board at man)) at h (λ t apart. grind (arith, boards)) in
    let was : number (man_at board at) at ≡ pos 0 = ap (λ there. number there at) none ∙ nothing at in
    let here : get (insert board at man) at ≡ Some man = grind (arith, boards) in
    let now : number (man_at (insert board at man) at) at ≡ number (Some man) at = ap (λ there. number there at) here in
    omega (arith, ints, change, was, now)

-- a man fewer
over_board-clear :
    (number : Number) → IsNoneEmpty number → (board : Board) (at : ℕ) (man : Man) → at < 64 → get board at ≡ Some man →
    over_board number (man_at (remove board at)) ≡ over_board number (man_at board) -ℤ number (Some man) at
over_board-clear number nothing board at man h some =
    let change = over_board-one number (man_at board) (man_at (remove board at)) at h (λ t apart. grind (arith, boards)) in
    let was : number (man_at board at) at ≡ number (Some man) at = ap (λ there. number there at) some in
    let here : get (remove board at) at ≡ None = grind (arith, boards) in
    let now : number (man_at (remove board at) at) at ≡ pos 0 = ap (λ there. number there at) here ∙ nothing at in
    omega (arith, ints, change, was, now)

pub sums-put : (board : Board) (at : ℕ) (man : Man) → at < 64 → get board at ≡ None →
    sums_of (man_at (insert board at man)) ≡ with_man (sums_of (man_at board)) man at
sums-put board at man h none = λ i.
    record {
      middle = over_board-put (balance_there middle_of) (λ s. refl) board at man h none i;
      end = over_board-put (balance_there end_of) (λ s. refl) board at man h none i;
      weights = over_board-put weight_there (λ s. refl) board at man h none i;
    }

pub sums-clear : (board : Board) (at : ℕ) (man : Man) → at < 64 → get board at ≡ Some man →
    sums_of (man_at (remove board at)) ≡ without_man (sums_of (man_at board)) man at
sums-clear board at man h some = λ i.
    record {
      middle = over_board-clear (balance_there middle_of) (λ s. refl) board at man h some i;
      end = over_board-clear (balance_there end_of) (λ s. refl) board at man h some i;
      weights = over_board-clear weight_there (λ s. refl) board at man h some i;
    }

-- another man in the place of one
pub sums-replace : (board : Board) (at : ℕ) (other man : Man) → at < 64 → get board at ≡ Some other →
    sums_of (man_at (insert board at man)) ≡ with_man (without_man (sums_of (man_at board)) other at) man at
sums-replace board at other man h some =
    let none : get (remove board at) at ≡ None = grind (arith, boards) in
    ap (λ (b : Board). sums_of (man_at b)) (sym (put-again board at man))
    ∙ sums-put (remove board at) at man h none
    ∙ ap (λ (s : Sums). with_man s man at) (sums-clear board at other h some)

-- the sums over the first squares
abbrev pub sums_below : Men → ℕ → Sums
sums_below man_on n =
    record {
      middle = run (on (balance_there middle_of) man_on) 0 n;
      end = run (on (balance_there end_of) man_on) 0 n;
      weights = run (on weight_there man_on) 0 n;
    }

pub below_all : (man_on : Men) → sums_below man_on 64 ≡ sums_of man_on
unfolding over_board squares run
below_all man_on = refl

pub below_none : (man_on : Men) → sums_below man_on 0 ≡ record { middle = pos 0; end = pos 0; weights = pos 0 }
below_none man_on = λ i.
    record {
      middle = run-none (on (balance_there middle_of) man_on) 0 i;
      end = run-none (on (balance_there end_of) man_on) 0 i;
      weights = run-none (on weight_there man_on) 0 i;
    }

next : (number : Number) (man_on : Men) (n : ℕ) (there : Option Man) → man_on n ≡ there →
    run (on number man_on) 0 (n + 1) ≡ run (on number man_on) 0 n +ℤ number there n
next number man_on n there is =
    let here : on number man_on (0 + n) ≡ number there n = ap (on number man_on) (omega arith) ∙ ap (λ t. number t n) is in
    ap (run (on number man_on) 0) (add-one n) ∙ omega (arith, ints, run-more (on number man_on) 0 n)

pub below_man : (man_on : Men) (n : ℕ) (man : Man) → man_on n ≡ Some man → sums_below man_on (n + 1) ≡ with_man (sums_below man_on n) man n
below_man man_on n man is = λ i.
    record {
      middle = next (balance_there middle_of) man_on n (Some man) is i;
      end = next (balance_there end_of) man_on n (Some man) is i;
      weights = next weight_there man_on n (Some man) is i;
    }

nothing_more : (number : Number) → IsNoneEmpty number → (man_on : Men) (n : ℕ) → man_on n ≡ None → run (on number man_on) 0 (n + 1) ≡ run (on number man_on) 0 n
nothing_more number nothing man_on n is = omega (arith, ints, next number man_on n None is, nothing n)

pub below_empty : (man_on : Men) (n : ℕ) → man_on n ≡ None → sums_below man_on (n + 1) ≡ sums_below man_on n
below_empty man_on n is = λ i.
    record {
      middle = nothing_more (balance_there middle_of) (λ s. refl) man_on n is i;
      end = nothing_more (balance_there end_of) (λ s. refl) man_on n is i;
      weights = nothing_more weight_there (λ s. refl) man_on n is i;
    }

run_within : (f : ℕ → ℤ) (n : ℕ) → n ≤ 64 → ((t : ℕ) → t < 64 → IsWithin 903 (f t)) → IsWithin 57792 (run f 0 n)
run_within f n h small =
    let low = run-low 903 f 0 n (λ t below. (small t (omega arith)).low) in
    let high = run-high 903 f 0 n (λ t below. (small t (omega arith)).high) in
    record { low = omega (arith, ints, low); high = omega (arith, ints, high) }

pub below_in_range : (man_on : Men) (n : ℕ) → n ≤ 64 → AreInRange (sums_below man_on n)
below_in_range man_on n h =
    record {
      middle = run_within (on (balance_there middle_of) man_on) n h (λ t below. middle_within (man_on t) t below);
      end = run_within (on (balance_there end_of) man_on) n h (λ t below. end_within (man_on t) t below);
      weights_low = omega (arith, ints, run-low 0 (on weight_there man_on) 0 n (λ t below. (weight_small (man_on t) t).low));
      weights_high = omega (arith, ints, run-high 4 (on weight_there man_on) 0 n (λ t below. (weight_small (man_on t) t).high));
    }

pub sums_in_range : (man_on : Men) → AreInRange (sums_of man_on)
sums_in_range man_on = subst AreInRange (below_all man_on) (below_in_range man_on 64 (omega arith))

-- none on the empty board
no_men : (number : Number) → IsNoneEmpty number → over_board number (man_at (empty {R = nat_cmp})) ≡ pos 0
no_men number nothing =
    over_board_is_run number (man_at (empty {R = nat_cmp}))
    ∙ run-zero (on number (man_at (empty {R = nat_cmp}))) 0 64 (λ t. ap (λ there. number there t) (get-empty nat_cmp t) ∙ nothing t)

pub sums_empty : sums_of (man_at (empty {R = nat_cmp})) ≡ record { middle = pos 0; end = pos 0; weights = pos 0 }
sums_empty = λ i.
    record {
      middle = no_men (balance_there middle_of) (λ s. refl) i;
      end = no_men (balance_there end_of) (λ s. refl) i;
      weights = no_men weight_there (λ s. refl) i;
    }
