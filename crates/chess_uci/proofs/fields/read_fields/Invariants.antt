use Rattle.std.proofs.Common.{◌≡◌, length, fold}
use Rattle.byte_streams.specs.Words.{words}
use Rattle.chess_uci.specs.Commands.{gaps}
use Rattle.chess_uci.specs.Go.{fields, read_word}
use Rattle.chess_uci.proofs.fields.read_fields.Given as goal

abbrev pub invariant-loop-word : goal.invariant-loop-word
invariant-loop-word l = (fold read_word (record { fields = l.fields; wanted = l.wanted }) (words gaps l.rest)).fields ≡ fields (words gaps l.text)

abbrev pub decreases-loop-word : goal.decreases-loop-word
decreases-loop-word l = length (words gaps l.rest)
