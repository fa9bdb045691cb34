-- The attack count as a sum over the squares.
use Rattle.std.proofs.Common.{◌≡◌, ℕ, ◌≤◌, refl, ◌∙◌, arith, None}
use Rattle.chess_types.specs.declared.board.man.Colour.{Colour}
use Rattle.chess_types.specs.board.Board.{Men}
use Rattle.chess_types.specs.board.Squares.{squares}
use Rattle.chess_types.specs.board.Attack.{attacks_for, count}
use Rattle.chess_types.proofs.Sums.{bit, total, sum_by-range, total-small, total-zero, bit_small}

-- 1 where a holds a man of the colour that attacks s
abbrev pub weight : Men → Colour → ℕ → ℕ → ℕ
weight man_on c s a = bit (attacks_for (man_on a) c man_on a s)

-- the attack count is the sum over all squares
pub count_is_total : (man_on : Men) (c : Colour) (s : ℕ) → count man_on c s ≡ total (weight man_on c s) 0 64
unfolding count squares
count_is_total man_on c s = sum_by-range (weight man_on c s) 0 64

-- no count passes 64
pub count_small : (man_on : Men) (c : Colour) (s : ℕ) → count man_on c s ≤ 64
count_small man_on c s =
    omega (arith, count_is_total man_on c s, total-small (weight man_on c s) 0 64 (λ a. bit_small (attacks_for (man_on a) c man_on a s)))

-- nobody attacks where no man stands
pub count_none : (man_on : Men) (c : Colour) (s : ℕ) → ((t : ℕ) → man_on t ≡ None) → count man_on c s ≡ 0
count_none man_on c s none = count_is_total man_on c s ∙ total-zero (weight man_on c s) 0 64 (λ x. rw (none x) refl)
