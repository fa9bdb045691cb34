use Rattle.std.proofs.Common.{◌≡◌, length}
use Rattle.chess_repair.specs.Fens.{value_end}
use Rattle.chess_repair.proofs.fen.value_end.Given as goal

abbrev pub invariant-loop-rest : goal.invariant-loop-rest
invariant-loop-rest l = value_end l.value ≡ value_end l.rest

abbrev pub decreases-loop-rest : goal.decreases-loop-rest
decreases-loop-rest l = length l.rest
