use Rattle.std.proofs.Common.{◌≡◌, length}
use Rattle.byte_streams.specs.Words.{words}
use Rattle.chess_uci.specs.Commands.{gaps}
use Rattle.chess_uci.specs.Go.{is_listed}
use Rattle.chess_uci.proofs.go.is_listed.Given as goal

abbrev pub invariant-loop-word : goal.invariant-loop-word
invariant-loop-word l = is_listed l.text (words gaps l.rest) ≡ is_listed l.text (words gaps l.list)

abbrev pub decreases-loop-word : goal.decreases-loop-word
decreases-loop-word l = length (words gaps l.rest)
