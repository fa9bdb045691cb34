use Rattle.std.proofs.Common.{◌≡◌, length, Some}
use Rattle.chess_fen.specs.Ranks.{cells_of, both_cells}
use Rattle.chess_fen.proofs.ranks.read_rank.Given as goal

abbrev pub invariant-loop-rest : goal.invariant-loop-rest
invariant-loop-rest l = both_cells (Some l.cells.items) (cells_of l.rest) ≡ cells_of l.text

abbrev pub decreases-loop-rest : goal.decreases-loop-rest
decreases-loop-rest l = length l.rest
