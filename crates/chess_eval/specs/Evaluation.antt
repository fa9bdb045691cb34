-- The evaluation of a board, in centipawns for White: between what its men are worth in the middlegame and in the endgame, by the weights
-- of the men that are left.
--   balance_there    what stands on a square is worth to White: Black's men count against him
--   weight_there     what stands on a square weighs
--   over_board       a sum over the squares of the board, of what stands there
--   Sums, sums_of    the three sums of a board: White's worths less Black's in the middlegame, and in the endgame, and all weights
--   phase            how much of the middlegame is left, of 24
--   tapered          the evaluation by three sums
--   evaluation       the evaluation of a board
--   AreSumsOf        three sums are those of a board
--   IsWithin         at most so many centipawns, for either side
--   HasArmies        a board with at most 16 men a side, one of them the king
use Rattle.std.specs.Prelude.{ℕ, ◌≡◌, ◌≤◌, List, [], ◌∷◌, Option, Some, None, ℤ, pos, ◌+ℤ◌, ◌-ℤ◌, ◌*ℤ◌, neg_ℤ, ◌≤ℤ◌, int_div}
use Rattle.std.specs.Int.{int_min}
use Rattle.chess_types.specs.declared.board.man.Colour.{Colour}
use Rattle.chess_types.specs.declared.board.man.Colour.TheVariants.{White, Black}
use Rattle.chess_types.specs.declared.board.man.Man.{Man}
use Rattle.chess_types.specs.board.Board.{Board, Men, man_at}
use Rattle.chess_types.specs.board.Men.{men_of, kings_of}
use Rattle.chess_types.specs.board.Squares.{squares}
use Rattle.chess_eval.specs.Worth.{middle_of, end_of, weight_of}

-- White's men count for White, Black's against
abbrev pub for_white : Colour → ℤ → ℤ
for_white White worth = worth
for_white Black worth = neg_ℤ worth

-- nothing, where no man stands
abbrev pub balance_there : (Man → ℕ → ℤ) → Option Man → ℕ → ℤ
balance_there worth None square = pos 0
balance_there worth (Some man) square = for_white man.colour (worth man square)

-- the same for both colours, wherever the man stands
abbrev pub weight_there : Option Man → ℕ → ℤ
weight_there None square = pos 0
weight_there (Some man) square = weight_of man.kind

-- the sum of the numbers of some squares
abbrev pub sum_over : (ℕ → ℤ) → List ℕ → ℤ
sum_over number [] = pos 0
sum_over number (square ∷ others) = number square +ℤ sum_over number others

-- the sum over all squares
unfoldable pub over_board : (Option Man → ℕ → ℤ) → Men → ℤ
over_board number man_on = sum_over (λ square. number (man_on square) square) squares

-- White's worths less Black's, in the middlegame and in the endgame; the weights of all men
pub record Sums : Type 0 where
  pub middle : ℤ
  pub end : ℤ
  pub weights : ℤ

-- the three sums of a board
abbrev pub sums_of : Men → Sums
sums_of man_on =
    record {
      middle = over_board (balance_there middle_of) man_on;
      end = over_board (balance_there end_of) man_on;
      weights = over_board weight_there man_on;
    }

-- 24 while the men weigh that much or more, 0 once only pawns and kings are left
abbrev pub phase : ℤ → ℤ
phase weights = int_min weights (pos 24)

-- the mean of both, by the phase; what is over is cut off, towards 0
unfoldable pub tapered : Sums → ℤ
tapered sums =
    int_div (sums.middle *ℤ phase sums.weights +ℤ sums.end *ℤ (pos 24 -ℤ phase sums.weights)) (pos 24)

-- for White, in centipawns
unfoldable pub evaluation : Men → ℤ
evaluation man_on = tapered (sums_of man_on)

-- they are the sums of the board
abbrev pub AreSumsOf : Sums → Board → Type 0
AreSumsOf sums board = sums ≡ sums_of (man_at board)

-- at most so many centipawns, for either side
pub record IsWithin (most : ℕ) (centipawns : ℤ) : Type 0 where
  pub low : neg_ℤ (pos most) ≤ℤ centipawns
  pub high : centipawns ≤ℤ pos most

-- at most 16 men a side, one of them the king
pub record HasArmies (board : Board) : Type 0 where
  pub few : (colour : Colour) → men_of board colour ≤ 16
  pub kings : (colour : Colour) → kings_of board colour ≡ 1
