use Rattle.std.proofs.Common.{◌≡◌, ◌++◌, true, length}
use Rattle.chess_repair.specs.Ends.{is_prose}
use Rattle.chess_repair.proofs.ends.is_prose.Given as goal

-- the text is prose where what is left of it is
abbrev pub invariant-loop-rest : goal.invariant-loop-rest
invariant-loop-rest l = record { whole : l.left ≡ l.rest ++ l.others; same : is_prose true l.text l.others ≡ is_prose l.is_first l.rest l.others }

abbrev pub decreases-loop-rest : goal.decreases-loop-rest
decreases-loop-rest l = length l.rest
