-- What a line is worth by a search, and its text as UCI writes scores.
--   IsValue      a number that a line may be worth to the side to move
--   IsApart      it's the value of a mate, or far from any
--   score_text   centipawns, or the moves to a mate
use Rattle.std.specs.Prelude.{◌≤ℤ◌, ◌⊎◌, if◌then◌else◌, List, ◌++◌, ℕ, ℤ, pos, neg_ℤ, ◌+ℤ◌, ◌-ℤ◌, int_lt, int_div, codes}
use Rattle.std.specs.Fmt.{signed_decimal}
use Rattle.chess_eval.specs.Evaluation.{IsWithin}

-- between mated and mating at the root
pub record IsValue (value : ℤ) : Type 0 where
  pub low : neg_ℤ (pos 30000) ≤ℤ value
  pub high : value ≤ℤ pos 30000

-- at most 13,605 centipawns either way, the most that a position is worth; or a mate at most 16 moves from the root
abbrev pub IsApart : ℤ → Type 0
IsApart value = IsWithin 13605 value ⊎ ((value ≤ℤ neg_ℤ (pos 29984)) ⊎ (pos 29984 ≤ℤ value))

-- `mate N` where the side to move mates with its N-th move, `mate -N` where it is mated by the other side's N-th, at most 16 plies
-- ahead; else `cp` and the centipawns
unfoldable pub score_text : ℤ → List ℕ
score_text value =
    if int_lt value (pos 29984)
    then (if int_lt (neg_ℤ (pos 29984)) value then codes "cp " ++ signed_decimal value
    else codes "mate -" ++ signed_decimal (int_div (pos 30000 +ℤ value) (pos 2)))
    else codes "mate " ++ signed_decimal (int_div (pos 30001 -ℤ value) (pos 2))
