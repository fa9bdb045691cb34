-- The evaluation of two armies, each of at most 16 men with one king: at most 15 queens in the middle; and in the middlegame a king there on
-- the other side, in the endgame their own king there.
use Rattle.std.proofs.Common.{◌≡◌, ℕ, zero, suc, ◌+◌, ◌*◌, ◌<◌, Bool, ◌&&◌, ℤ, pos, neg_ℤ, ◌+ℤ◌, ◌≤ℤ◌, Option, Some, None, refl, sym, ap, ◌∙◌, arith}
use Rattle.std.proofs.Math.Nat.{mul-add}
use Rattle.std.specs.Prelude.{count_by}
use Rattle.std.specs.List.{range_with_len}
use Rattle.std.proofs.lemmas.Int.{ints}
use Rattle.std.proofs.lemmas.List.Sums.{sum_by-cons}
use Rattle.chess_types.specs.declared.board.man.Colour.{Colour}
use Rattle.chess_types.specs.declared.board.man.Colour.TheVariants.{White, Black}
use Rattle.chess_types.specs.declared.board.man.Man.{Man}
use Rattle.chess_types.specs.board.Board.{Board, Men, man_at}
use Rattle.chess_types.specs.board.Squares.{squares}
use Rattle.chess_types.specs.board.Men.{opponent, same_colour, is_king, is_of, is_king_of, count_squares}
use Rattle.chess_types.proofs.Sums.{bit}
use Rattle.chess_eval.specs.Worth.{middle_of, end_of}
use Rattle.chess_eval.specs.Evaluation.{for_white, balance_there, over_board, sums_of, evaluation, IsWithin, HasArmies}
use Rattle.chess_eval.proofs.Sums.{run, run-none, run-first, run-neg}
use Rattle.chess_eval.proofs.SmallWorths.{IsMiddle, IsEnd, middle_small, end_small}
use Rattle.chess_eval.proofs.Evaluations.{over_board_is_run, sums_in_range}
use Rattle.chess_eval.proofs.Tapers.{tapered_within}

-- 903 for each man but the king, and something more
abbrev IsAtMost : ℤ → ℕ → ℕ → ℕ → Type 0
IsAtMost worth men king more = (worth +ℤ pos (903 * king)) ≤ℤ pos (903 * men + more)

-- to one side, in the middlegame: 36 for the other king
man_middle : (us colour : Colour) (king : Bool) (worth : ℤ) → IsMiddle king worth →
    IsAtMost (for_white us (for_white colour worth)) (bit (same_colour colour us)) (bit (same_colour colour us && king)) (36 * bit (same_colour colour (opponent us) && king))
man_middle White White king worth h = omega (arith, ints, h.low, h.high)
man_middle White Black king worth h = omega (arith, ints, h.low, h.high)
man_middle Black White king worth h = omega (arith, ints, h.low, h.high)
man_middle Black Black king worth h = omega (arith, ints, h.low, h.high)

-- in the endgame: 60 for its own
man_end : (us colour : Colour) (king : Bool) (worth : ℤ) → IsEnd king worth →
    IsAtMost (for_white us (for_white colour worth)) (bit (same_colour colour us)) (bit (same_colour colour us && king)) (60 * bit (same_colour colour us && king))
man_end White White king worth h = omega (arith, ints, h.low, h.high)
man_end White Black king worth h = omega (arith, ints, h.low, h.high)
man_end Black White king worth h = omega (arith, ints, h.low, h.high)
man_end Black Black king worth h = omega (arith, ints, h.low, h.high)

nothing_there : (us : Colour) → for_white us (pos 0) ≡ pos 0
nothing_there White = refl
nothing_there Black = refl

there_middle : (us : Colour) (there : Option Man) (square : ℕ) → square < 64 →
    IsAtMost (for_white us (balance_there middle_of there square)) (bit (is_of us there)) (bit (is_king_of us there)) (36 * bit (is_king_of (opponent us) there))
there_middle us None square h = omega (arith, ints, nothing_there us)
there_middle us (Some man) square h = man_middle us man.colour (is_king man.kind) (middle_of man square) (middle_small man square h)

there_end : (us : Colour) (there : Option Man) (square : ℕ) → square < 64 →
    IsAtMost (for_white us (balance_there end_of there square)) (bit (is_of us there)) (bit (is_king_of us there)) (60 * bit (is_king_of us there))
there_end us None square h = omega (arith, ints, nothing_there us)
there_end us (Some man) square h = man_end us man.colour (is_king man.kind) (end_of man square) (end_small man square h)

-- how many squares of a run pass a test
unfoldable passing : (ℕ → Bool) → ℕ → ℕ → ℕ
passing test a n = count_by test (range_with_len a n)

passing-none : (test : ℕ → Bool) (a : ℕ) → passing test a 0 ≡ 0
unfolding passing
passing-none test a = refl

passing-first : (test : ℕ → Bool) (a n : ℕ) → passing test a (suc n) ≡ bit (test a) + passing test (a + 1) n
unfolding passing
passing-first test a n = sum_by-cons (λ t. bit (test t)) a (range_with_len (a + 1) n)

run_most : (f : ℕ → ℤ) (men king other : ℕ → Bool) (each a n : ℕ) →
    ((t : ℕ) → t < a + n → IsAtMost (f t) (bit (men t)) (bit (king t)) (each * bit (other t))) →
    IsAtMost (run f a n) (passing men a n) (passing king a n) (each * passing other a n)
run_most f men king other each a zero h = omega (arith, ints, run-none f a, passing-none king a)
run_most f men king other each a (suc n) h =
    let first : each * passing other a (suc n) ≡ each * bit (other a) + each * passing other (a + 1) n =
    ap (λ x. each * x) (passing-first other a n) ∙ mul-add each (bit (other a)) (passing other (a + 1) n) in
    omega (
      arith,
      ints,
      first,
      run-first f a n,
      passing-first men a n,
      passing-first king a n,
      h a (omega arith),
      run_most f men king other each (a + 1) n (λ t high. h t (omega arith)),
    )

census_is_passing : (test : Option Man → Bool) (board : Board) → count_squares test board ≡ passing (λ s. test (man_at board s)) 0 64
unfolding count_squares squares passing
census_is_passing test board = refl

-- what one side has
run_for : (us : Colour) (f : ℕ → ℤ) → run (λ t. for_white us (f t)) 0 64 ≡ for_white us (run f 0 64)
run_for White f = refl
run_for Black f = run-neg (λ t. neg_ℤ (f t)) f 0 64 (λ t h. refl)

side_most : (number : Option Man → ℕ → ℤ) (us king_of : Colour) (each : ℕ) (board : Board) → HasArmies board →
    ((there : Option Man) (square : ℕ) → square < 64 →
    IsAtMost (for_white us (number there square)) (bit (is_of us there)) (bit (is_king_of us there)) (each * bit (is_king_of king_of there))) →
    for_white us (over_board number (man_at board)) ≤ℤ pos (13545 + each)
side_most number us king_of each board armies small =
    let man_on : Men = man_at board in
    let most = run_most (λ t. for_white us (number (man_on t) t)) (λ s. is_of us (man_on s)) (λ s. is_king_of us (man_on s)) (λ s. is_king_of king_of (man_on s)) each 0 64 (λ t h. small (man_on t) t (omega arith)) in
    let men = census_is_passing (is_of us) board in
    let king = census_is_passing (is_king_of us) board in
    let other : passing (λ s. is_king_of king_of (man_on s)) 0 64 ≡ 1 = sym (census_is_passing (is_king_of king_of) board) ∙ armies.kings king_of in
    let once : each * passing (λ s. is_king_of king_of (man_on s)) 0 64 ≡ each = ap (λ x. each * x) other ∙ omega arith in
    let all : for_white us (over_board number man_on) ≡ run (λ t. for_white us (number (man_on t) t)) 0 64 =
    ap (for_white us) (over_board_is_run number man_on) ∙ sym (run_for us (λ t. number (man_on t) t)) in
    omega (arith, ints, all, most, once, men, king, armies.few us, armies.kings us)

pub armies_within : (board : Board) → HasArmies board → IsWithin 13605 (evaluation (man_at board))
unfolding evaluation
armies_within board armies =
    let middle_white = side_most (balance_there middle_of) White Black 36 board armies (there_middle White) in
    let middle_black = side_most (balance_there middle_of) Black White 36 board armies (there_middle Black) in
    let end_white = side_most (balance_there end_of) White White 60 board armies (there_end White) in
    let end_black = side_most (balance_there end_of) Black Black 60 board armies (there_end Black) in
    tapered_within 13605 (sums_of (man_at board))
    (record { low = omega (arith, ints, middle_black); high = omega (arith, ints, middle_white) })
    (record { low = omega (arith, ints, end_black); high = omega (arith, ints, end_white) })
    (sums_in_range (man_at board)).weights_low
