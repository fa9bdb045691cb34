use Rattle.std.proofs.Common.{◌≡◌, length}
use Rattle.byte_streams.specs.Words.{without_last_gaps}
use Rattle.chess_san.specs.Forms.{marks}
use Rattle.chess_san.proofs.course.without_marks.Given as goal

abbrev pub invariant-loop-rest : goal.invariant-loop-rest
invariant-loop-rest l = without_last_gaps marks l.rest ≡ without_last_gaps marks l.text

abbrev pub decreases-loop-rest : goal.decreases-loop-rest
decreases-loop-rest l = length l.rest
