use Rattle.std.proofs.Common.{◌≡◌, ◌++◌, length}
use Rattle.byte_streams.specs.Words.{words}
use Rattle.chess_uci.specs.Commands.{gaps}
use Rattle.chess_uci.specs.Placing.{before_moves, spaced}
use Rattle.chess_uci.proofs.placing.fen_text.Given as goal

abbrev pub invariant-loop-word : goal.invariant-loop-word
invariant-loop-word g l = l.fen.items ++ spaced (before_moves (words gaps l.rest)) ≡ spaced (before_moves (words gaps l.text))

abbrev pub decreases-loop-word : goal.decreases-loop-word
decreases-loop-word g l = length (words gaps l.rest)
