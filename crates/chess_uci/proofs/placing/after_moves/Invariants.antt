use Rattle.std.proofs.Common.{◌≡◌, length}
use Rattle.byte_streams.specs.Words.{words}
use Rattle.chess_uci.specs.Commands.{gaps}
use Rattle.chess_uci.specs.Placing.{after_moves}
use Rattle.chess_uci.proofs.placing.after_moves.Given as goal

abbrev pub invariant-loop-word : goal.invariant-loop-word
invariant-loop-word l = after_moves (words gaps l.rest) ≡ after_moves (words gaps l.text)

abbrev pub decreases-loop-word : goal.decreases-loop-word
decreases-loop-word l = length (words gaps l.rest)
