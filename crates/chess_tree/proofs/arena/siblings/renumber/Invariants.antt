use Rattle.std.proofs.Common.{◌≤◌}
use Rattle.chess_tree.proofs.PlacedLemmas.{Renumbering}
use Rattle.chess_tree.proofs.arena.siblings.renumber.Given as goal

abbrev pub invariant-loop-place : goal.invariant-loop-place
invariant-loop-place g l = Renumbering l.initial.nodes l.nodes l.at l.from l.place × (l.place ≤ l.to)
