use Rattle.std.proofs.Common.{◌≡◌, length}
use Rattle.chess_fen.specs.Ranks.{has_adjacent_digits}
use Rattle.chess_fen.proofs.ranks.has_adjacent_digits.Given as goal

abbrev pub invariant-loop-rest : goal.invariant-loop-rest
invariant-loop-rest l = has_adjacent_digits l.rest ≡ has_adjacent_digits l.text

abbrev pub decreases-loop-rest : goal.decreases-loop-rest
decreases-loop-rest l = length l.rest
