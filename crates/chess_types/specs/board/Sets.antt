-- Sets of squares compared.
--   same_squares   each of two sets has the other's squares
--   same_each      the same, asked square by square
use Rattle.std.specs.Prelude.{Bool, ◌&&◌}
use Rattle.std.specs.List.{list_all}
use Rattle.std.specs.Ordering.{nat_cmp}
use Rattle.std.specs.FinSet.{FinSet, contains, is_subset}
use Rattle.chess_types.specs.board.Squares.{squares}
use Rattle.chess_types.specs.board.Repetition.{same_bool}

-- the same squares are in both sets
abbrev pub same_squares : FinSet nat_cmp → FinSet nat_cmp → Bool
same_squares a b = is_subset a b && is_subset b a

-- both have a square of the board, or neither has it
unfoldable pub same_each : FinSet nat_cmp → FinSet nat_cmp → Bool
same_each a b = list_all (λ s. same_bool (contains a s) (contains b s)) squares
