use Rattle.std.proofs.Common.{◌≡◌, length}
use Rattle.chess_repair.specs.Fens.{in_word}
use Rattle.chess_repair.specs.Runs.{past}
use Rattle.chess_repair.proofs.fen.past_word.Given as goal

abbrev pub invariant-loop-rest : goal.invariant-loop-rest
invariant-loop-rest l = past in_word l.text ≡ past in_word l.rest

abbrev pub decreases-loop-rest : goal.decreases-loop-rest
decreases-loop-rest l = length l.rest
