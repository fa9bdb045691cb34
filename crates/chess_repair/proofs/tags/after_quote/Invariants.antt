use Rattle.std.proofs.Common.{◌≡◌, length}
use Rattle.chess_repair.specs.Tags.{after_quote}
use Rattle.chess_repair.proofs.tags.after_quote.Given as goal

abbrev pub invariant-loop-rest : goal.invariant-loop-rest
invariant-loop-rest l = after_quote l.text ≡ after_quote l.rest

abbrev pub decreases-loop-rest : goal.decreases-loop-rest
decreases-loop-rest l = length l.rest
