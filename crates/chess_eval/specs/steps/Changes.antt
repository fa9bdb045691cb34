-- Three sums, a man more or fewer at a time.
--   plus                    so much more in each
--   with_man, without_man   what the man counts on the square is added, or taken away
--   AreInRange              no board's sums are larger
use Rattle.std.specs.Prelude.{ℕ, ℤ, pos, ◌+ℤ◌, neg_ℤ, ◌≤ℤ◌, Some}
use Rattle.chess_types.specs.declared.board.man.Man.{Man}
use Rattle.chess_eval.specs.Worth.{middle_of, end_of}
use Rattle.chess_eval.specs.Evaluation.{Sums, balance_there, weight_there, IsWithin}

-- the sums with so much more
abbrev pub plus : Sums → ℤ → ℤ → ℤ → Sums
plus sums middle end weights = record { middle = sums.middle +ℤ middle; end = sums.end +ℤ end; weights = sums.weights +ℤ weights }

-- the sums with one man more
abbrev pub with_man : Sums → Man → ℕ → Sums
with_man sums man square =
    plus sums (balance_there middle_of (Some man) square) (balance_there end_of (Some man) square) (weight_there (Some man) square)

-- the sums with one man fewer
abbrev pub without_man : Sums → Man → ℕ → Sums
without_man sums man square =
    plus sums (neg_ℤ (balance_there middle_of (Some man) square)) (neg_ℤ (balance_there end_of (Some man) square)) (neg_ℤ (weight_there (Some man) square))

-- 903 for each square, and a weight of 4
pub record AreInRange (sums : Sums) : Type 0 where
  pub middle : IsWithin 57792 sums.middle
  pub end : IsWithin 57792 sums.end
  pub weights_low : pos 0 ≤ℤ sums.weights
  pub weights_high : sums.weights ≤ℤ pos 256
