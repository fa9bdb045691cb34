use Rattle.std.proofs.Common.{◌≡◌, take}
use Rattle.chess_tree.proofs.arena.Arena.places.Given as goal

abbrev pub invariant-loop-depth : goal.invariant-loop-depth
invariant-loop-depth g l = l.places.items ≡ take l.depth l.self.path
