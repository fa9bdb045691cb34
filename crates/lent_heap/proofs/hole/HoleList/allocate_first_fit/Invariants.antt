use Rattle.std.proofs.Common.{◌≡◌, length}
use Rattle.lent_heap.proofs.Search.{Sought}
use Rattle.lent_heap.proofs.hole.HoleList.allocate_first_fit.Given as goal

abbrev pub invariant-loop-block : goal.invariant-loop-block
invariant-loop-block l = (l.cursor.region ≡ l.fn.self.region) × Sought l.size (l.fn.self.region.start, 0) l.fn.self.holes l.cursor.before l.cursor.current l.cursor.after

abbrev pub decreases-loop-block : goal.decreases-loop-block
decreases-loop-block l = length l.cursor.after
