use Rattle.std.proofs.Common.{◌≡◌, take, min, fold}
use Rattle.chess_uci.specs.Go.{with_digit}
use Rattle.chess_uci.proofs.fields.value_of.Given as goal

abbrev pub invariant-loop-byte : goal.invariant-loop-byte
invariant-loop-byte l = l.value ≡ min (fold with_digit 0 (take l.byte-index l.word)) 1000000000
