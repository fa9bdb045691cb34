use Rattle.std.proofs.Common.{◌≡◌, ◌≤◌, ◌∷◌, ◌++◌, length}
use Rattle.lent_heap.proofs.hole.HoleList.deallocate.Given as goal

abbrev pub invariant-loop-inserted : goal.invariant-loop-inserted
invariant-loop-inserted l =
    (l.cursor.region ≡ l.fn.self.region) × (l.block ≡ l.fn.block) × (l.cursor.current.0 ≤ l.block.at)
    × ((l.fn.self.region.start, 0) ∷ l.fn.self.holes ≡ l.cursor.before ++ l.cursor.current ∷ l.cursor.after)

abbrev pub decreases-loop-inserted : goal.decreases-loop-inserted
decreases-loop-inserted l = length l.cursor.after
