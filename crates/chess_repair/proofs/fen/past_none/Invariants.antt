use Rattle.std.proofs.Common.{◌≡◌, length}
use Rattle.chess_repair.specs.Fens.{says_none}
use Rattle.chess_repair.specs.Runs.{past}
use Rattle.chess_repair.proofs.fen.past_none.Given as goal

abbrev pub invariant-loop-rest : goal.invariant-loop-rest
invariant-loop-rest l = past says_none l.value ≡ past says_none l.rest

abbrev pub decreases-loop-rest : goal.decreases-loop-rest
decreases-loop-rest l = length l.rest
