use Rattle.std.proofs.Common.{◌≡◌, length}
use Rattle.byte_streams.specs.Words.{words}
use Rattle.chess_uci.specs.Commands.{gaps, command}
use Rattle.chess_uci.proofs.command.read_command.Given as goal

abbrev pub invariant-loop-word : goal.invariant-loop-word
invariant-loop-word l = command (words gaps l.rest) ≡ command (words gaps l.line)

abbrev pub decreases-loop-word : goal.decreases-loop-word
decreases-loop-word l = length (words gaps l.rest)
