use Rattle.std.proofs.Common.{◌≡◌, length}
use Rattle.chess_repair.specs.Runs.{past_end}
use Rattle.chess_repair.specs.Tags.{is_trimmed}
use Rattle.chess_repair.proofs.tags.without_edges.Given as goal

abbrev pub invariant-loop-rest : goal.invariant-loop-rest
invariant-loop-rest l = past_end is_trimmed l.text ≡ past_end is_trimmed l.rest

abbrev pub decreases-loop-rest : goal.decreases-loop-rest
decreases-loop-rest l = length l.rest
