-- How many positions plain minimax visits: a search visits no more.
--   tree_size    for the value of a line, searched to a depth: its last position, and while play goes on those below each legal move
--   tree_below   for what a move is worth
--   trees_below  for what each of some moves is worth, one after another
use Rattle.std.specs.Prelude.{ℕ, zero, suc, Bool, if◌then◌else◌, List}
use Rattle.std.specs.List.{sum_by}
use Rattle.chess_types.specs.board.MoveParts.{MoveParts}
use Rattle.chess_types.specs.board.Legal.{legal_moves}
use Rattle.chess_types.specs.board.Lines.{Line, last, extended}
use Rattle.chess_search.specs.Value.{counts_drawn}

-- how many positions the plain tree of that depth has
abbrev pub tree_size : Bool → ℕ → Line → ℕ
tree_size claims zero line = 1
tree_size claims (suc depth) line =
    if counts_drawn claims line then 1 else suc (sum_by (λ m. tree_size claims depth (extended line m)) (legal_moves (last line)))

-- how many it has after a move
abbrev pub tree_below : Bool → ℕ → Line → MoveParts → ℕ
tree_below claims depth line m = tree_size claims depth (extended line m)

-- how many it has after some moves
abbrev pub trees_below : Bool → ℕ → Line → List MoveParts → ℕ
trees_below claims depth line = sum_by (tree_below claims depth line)
