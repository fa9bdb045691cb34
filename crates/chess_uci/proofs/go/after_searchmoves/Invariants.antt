use Rattle.std.proofs.Common.{◌≡◌, length, []}
use Rattle.byte_streams.specs.Words.{words}
use Rattle.chess_uci.specs.Commands.{gaps}
use Rattle.chess_uci.specs.Go.{after_searchmoves}
use Rattle.chess_uci.proofs.go.after_searchmoves.Given as goal

abbrev pub invariant-loop-word : goal.invariant-loop-word
invariant-loop-word l = after_searchmoves (words gaps l.found) (words gaps l.rest) ≡ after_searchmoves [] (words gaps l.text)

abbrev pub decreases-loop-word : goal.decreases-loop-word
decreases-loop-word l = length (words gaps l.rest)
