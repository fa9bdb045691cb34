use Rattle.std.proofs.Common.{map}
use Rattle.chess_types.specs.board.Attack.{count}
use Rattle.chess_types.specs.board.Position.{man_on}
use Rattle.chess_types.specs.board.Squares.{squares}
use Rattle.chess_c.proofs.PutLemmas.{PutSoFar}
use Rattle.chess_c.proofs.squares.put_counts.Given as goal

abbrev pub invariant-loop-number : goal.invariant-loop-number
invariant-loop-number l = PutSoFar (map (count (man_on l.fn.live.position) l.fn.colour) squares) l.initial.room l.room l.number
