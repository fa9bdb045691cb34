use Rattle.std.proofs.Common.{arith}
use Rattle.chess_types.proofs.board.placement.Placement.from_cells.Goals as goal

pub invariant_of-result : goal.invariant_of-result
invariant_of-result c = rw c.gather-kept.ensures.contents (c.requires, c.gather-kept.ensures.kept, omega arith)
