use Rattle.std.proofs.Common.{map}
use Rattle.chess_types.specs.board.Board.{man_at}
use Rattle.chess_types.specs.board.Squares.{squares}
use Rattle.chess_c.specs.Positions.{letter_of}
use Rattle.chess_c.proofs.PutLemmas.{PutSoFar}
use Rattle.chess_c.proofs.positions.letters_of.Given as goal

abbrev pub invariant-loop-number : goal.invariant-loop-number
invariant-loop-number l = PutSoFar (map (λ square. letter_of (man_at l.fn.placement square)) squares) l.initial.letters l.letters l.number
