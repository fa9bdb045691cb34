use Rattle.std.proofs.Common.{◌≡◌, length}
use Rattle.chess_repair.specs.Ends.{has_feed}
use Rattle.chess_repair.proofs.ends.has_feed.Given as goal

abbrev pub invariant-loop-rest : goal.invariant-loop-rest
invariant-loop-rest l = has_feed l.text ≡ has_feed l.rest

abbrev pub decreases-loop-rest : goal.decreases-loop-rest
decreases-loop-rest l = length l.rest
