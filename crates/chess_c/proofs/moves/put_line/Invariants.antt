use Rattle.std.proofs.Common.{map}
use Rattle.chess_c.specs.Moves.{move_shown}
use Rattle.chess_c.proofs.PutLemmas.{PutSoFar}
use Rattle.chess_c.proofs.moves.put_line.Given as goal

abbrev pub invariant-loop-ply : goal.invariant-loop-ply
invariant-loop-ply l = PutSoFar (map move_shown l.line.line.moves) l.initial.room l.room l.ply
