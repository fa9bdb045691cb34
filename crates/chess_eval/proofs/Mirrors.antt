-- The sums of a board that is seen from the other side.
use Rattle.std.proofs.Common.{◌≡◌, ℕ, ◌<◌, ℤ, neg_ℤ, ◌+ℤ◌, Option, Some, None, refl, sym, ap, ◌∙◌, arith}
use Rattle.std.proofs.lemmas.Int.{ints}
use Rattle.chess_types.specs.declared.board.man.Colour.{Colour}
use Rattle.chess_types.specs.declared.board.man.Colour.TheVariants.{White, Black}
use Rattle.chess_types.specs.declared.board.man.Man.{Man}
use Rattle.chess_types.specs.board.Board.{Men}
use Rattle.chess_types.specs.board.Men.{opponent}
use Rattle.chess_types.specs.board.Squares.{file_of}
use Rattle.chess_eval.specs.Worth.{own_rank, middle_of_kind, end_of_kind, middle_of, end_of}
use Rattle.chess_eval.specs.Evaluation.{for_white, balance_there, weight_there, over_board, sums_of, tapered, evaluation}
use Rattle.chess_eval.specs.Mirror.{across, recoloured, mirrored}
use Rattle.chess_eval.proofs.Sums.{run, run-same, run-neg, run-joined}
use Rattle.chess_eval.proofs.Evaluations.{over_board_is_run, sums_in_range}
use Rattle.chess_eval.proofs.Tapers.{tapered-neg}

same_file : (square : ℕ) → square < 64 → file_of (across square) ≡ file_of square
same_file square h = omega arith

other_rank : (colour : Colour) (square : ℕ) → square < 64 → own_rank (opponent colour) square ≡ own_rank colour (across square)
other_rank White square h = omega arith
other_rank Black square h = omega arith

abbrev other_man : Man → Man
other_man man = record man { colour = opponent man.colour }

middle_across : (man : Man) (square : ℕ) → square < 64 → middle_of (other_man man) square ≡ middle_of man (across square)
unfolding middle_of
middle_across man square h = λ i. middle_of_kind man.kind (sym (same_file square h) i) (other_rank man.colour square h i)

end_across : (man : Man) (square : ℕ) → square < 64 → end_of (other_man man) square ≡ end_of man (across square)
unfolding end_of
end_across man square h = λ i. end_of_kind man.kind (sym (same_file square h) i) (other_rank man.colour square h i)

for_other : (colour : Colour) (worth : ℤ) → for_white (opponent colour) worth ≡ neg_ℤ (for_white colour worth)
for_other White worth = refl
for_other Black worth = omega (arith, ints)

balance_across : (worth : Man → ℕ → ℤ) → ((man : Man) (square : ℕ) → square < 64 → worth (other_man man) square ≡ worth man (across square)) →
    (there : Option Man) (square : ℕ) → square < 64 →
    balance_there worth (recoloured there) square ≡ neg_ℤ (balance_there worth there (across square))
balance_across worth same None square h = refl
balance_across worth same (Some man) square h =
    ap (for_white (opponent man.colour)) (same man square h) ∙ for_other man.colour (worth man (across square))

weight_across : (there : Option Man) (square : ℕ) → weight_there (recoloured there) square ≡ weight_there there (across square)
weight_across None square = refl
weight_across (Some man) square = refl

-- the ranks in the other order
eight_rows : (f : ℕ → ℤ) → run f 0 64 ≡ run f 0 8 +ℤ run f 8 8 +ℤ run f 16 8 +ℤ run f 24 8 +ℤ run f 32 8 +ℤ run f 40 8 +ℤ run f 48 8 +ℤ run f 56 8
eight_rows f =
    omega (
      arith,
      ints,
      run-joined f 0 8 56,
      run-joined f 8 8 48,
      run-joined f 16 8 40,
      run-joined f 24 8 32,
      run-joined f 32 8 24,
      run-joined f 40 8 16,
      run-joined f 48 8 8,
    )

reversed : (a b c d e f g h : ℤ) → a +ℤ b +ℤ c +ℤ d +ℤ e +ℤ f +ℤ g +ℤ h ≡ h +ℤ g +ℤ f +ℤ e +ℤ d +ℤ c +ℤ b +ℤ a
reversed a b c d e f g h = omega (arith, ints)

rows_turned : (f : ℕ → ℤ) →
    run (λ t. f (across t)) 0 8 +ℤ run (λ t. f (across t)) 8 8 +ℤ run (λ t. f (across t)) 16 8 +ℤ run (λ t. f (across t)) 24 8
    +ℤ run (λ t. f (across t)) 32 8 +ℤ run (λ t. f (across t)) 40 8 +ℤ run (λ t. f (across t)) 48 8 +ℤ run (λ t. f (across t)) 56 8
    ≡ run f 56 8 +ℤ run f 48 8 +ℤ run f 40 8 +ℤ run f 32 8 +ℤ run f 24 8 +ℤ run f 16 8 +ℤ run f 8 8 +ℤ run f 0 8
unfolding run
rows_turned f = refl

turned : (f : ℕ → ℤ) → run (λ t. f (across t)) 0 64 ≡ run f 0 64
turned f =
    eight_rows (λ t. f (across t)) ∙ rows_turned f
    ∙ reversed (run f 56 8) (run f 48 8) (run f 40 8) (run f 32 8) (run f 24 8) (run f 16 8) (run f 8 8) (run f 0 8) ∙ sym (eight_rows f)

balance-mirrored : (worth : Man → ℕ → ℤ) → ((man : Man) (square : ℕ) → square < 64 → worth (other_man man) square ≡ worth man (across square)) →
    (man_on other : Men) → ((square : ℕ) → square < 64 → other square ≡ mirrored man_on square) →
    over_board (balance_there worth) other ≡ neg_ℤ (over_board (balance_there worth) man_on)
balance-mirrored worth same man_on other mirror =
    over_board_is_run (balance_there worth) other
    ∙ run-neg (λ s. balance_there worth (other s) s) (λ s. balance_there worth (man_on (across s)) (across s)) 0 64
    (λ t h. ap (λ there. balance_there worth there t) (mirror t h) ∙ balance_across worth same (man_on (across t)) t h)
    ∙ ap neg_ℤ (turned (λ s. balance_there worth (man_on s) s) ∙ sym (over_board_is_run (balance_there worth) man_on))

weights-mirrored : (man_on other : Men) → ((square : ℕ) → square < 64 → other square ≡ mirrored man_on square) →
    over_board weight_there other ≡ over_board weight_there man_on
weights-mirrored man_on other mirror =
    over_board_is_run weight_there other
    ∙ run-same (λ s. weight_there (other s) s) (λ s. weight_there (man_on (across s)) (across s)) 0 64
    (λ t low h. ap (λ there. weight_there there t) (mirror t h) ∙ weight_across (man_on (across t)) t)
    ∙ turned (λ s. weight_there (man_on s) s)
    ∙ sym (over_board_is_run weight_there man_on)

-- both balances the other way round, the same weights
pub sums-mirrored : (man_on other : Men) → ((square : ℕ) → square < 64 → other square ≡ mirrored man_on square) →
    sums_of other ≡ record { middle = neg_ℤ (sums_of man_on).middle; end = neg_ℤ (sums_of man_on).end; weights = (sums_of man_on).weights }
sums-mirrored man_on other mirror = λ i.
    record {
      middle = balance-mirrored middle_of middle_across man_on other mirror i;
      end = balance-mirrored end_of end_across man_on other mirror i;
      weights = weights-mirrored man_on other mirror i;
    }

pub evaluation-mirrored : (man_on : Men) → evaluation (mirrored man_on) ≡ neg_ℤ (evaluation man_on)
unfolding evaluation
evaluation-mirrored man_on = ap tapered (sums-mirrored man_on (mirrored man_on) (λ square h. refl)) ∙ tapered-neg (sums_of man_on) (sums_in_range man_on).weights_low
