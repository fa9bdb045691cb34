use Rattle.std.proofs.Common.{◌≡◌, ◌++◌, take}
use Rattle.chess_pgn.specs.Written.{escaped}
use Rattle.chess_pgn.proofs.writer.push_escaped.Given as goal

abbrev pub invariant-loop-b : goal.invariant-loop-b
invariant-loop-b g l = l.text.items ≡ l.fn.text.items ++ escaped (take l.b-index l.value)
