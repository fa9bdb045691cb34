use Rattle.std.proofs.Common.{◌≡◌, length}
use Rattle.chess_repair.specs.Letters.{are_different}
use Rattle.chess_repair.proofs.letters.are_different.Given as goal

-- all are, where those that are left are
abbrev pub invariant-loop-rest : goal.invariant-loop-rest
invariant-loop-rest l = are_different l.bytes ≡ are_different l.rest

abbrev pub decreases-loop-rest : goal.decreases-loop-rest
decreases-loop-rest l = length l.rest
