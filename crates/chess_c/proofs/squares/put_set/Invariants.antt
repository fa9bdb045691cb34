use Rattle.std.proofs.Common.{map}
use Rattle.std.specs.FinSet.{contains}
use Rattle.chess_types.specs.board.Squares.{squares}
use Rattle.chess_c.specs.Asked.{flag}
use Rattle.chess_c.proofs.PutLemmas.{PutSoFar}
use Rattle.chess_c.proofs.squares.put_set.Given as goal

abbrev pub invariant-loop-number : goal.invariant-loop-number
invariant-loop-number l = PutSoFar (map (λ square. flag (contains l.set square)) squares) l.initial.room l.room l.number
