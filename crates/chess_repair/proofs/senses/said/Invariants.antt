use Rattle.std.proofs.Common.{◌≡◌, ◌++◌, length}
use Rattle.chess_repair.specs.Moves.{marks_after, move_marks}
use Rattle.chess_repair.proofs.senses.said.Given as goal

abbrev pub invariant-loop-rest : goal.invariant-loop-rest
invariant-loop-rest l = move_marks l.text ≡ l.marks.items ++ marks_after l.before l.rest

abbrev pub decreases-loop-rest : goal.decreases-loop-rest
decreases-loop-rest l = length l.rest
