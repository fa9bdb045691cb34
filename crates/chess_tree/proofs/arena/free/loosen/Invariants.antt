use Rattle.std.proofs.Common.{◌≡◌, length}
use Rattle.chess_tree.proofs.FreedLemmas.{Loosening}
use Rattle.chess_tree.proofs.arena.free.loosen.Given as goal

abbrev pub invariant-loop-passed : goal.invariant-loop-passed
invariant-loop-passed g l = Loosening l.initial.nodes l.initial.free l.nodes l.free l._passed × (length l.nodes ≡ length l.initial.nodes)
