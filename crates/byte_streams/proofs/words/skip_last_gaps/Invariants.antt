use Rattle.std.proofs.Common.{◌≡◌, length}
use Rattle.byte_streams.specs.Words.{without_last_gaps}
use Rattle.byte_streams.proofs.words.skip_last_gaps.Given as goal

abbrev pub invariant-loop-rest : goal.invariant-loop-rest
invariant-loop-rest l = without_last_gaps l.gaps l.rest ≡ without_last_gaps l.gaps l.bytes

abbrev pub decreases-loop-rest : goal.decreases-loop-rest
decreases-loop-rest l = length l.rest
