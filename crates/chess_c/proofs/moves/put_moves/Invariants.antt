use Rattle.std.proofs.Common.{map}
use Rattle.chess_c.specs.Moves.{move_shown}
use Rattle.chess_c.proofs.PutLemmas.{PutSoFar}
use Rattle.chess_c.proofs.moves.put_moves.Given as goal

abbrev pub invariant-loop-i : goal.invariant-loop-i
invariant-loop-i l = PutSoFar (map move_shown l.moves) l.initial.room l.room l.i
