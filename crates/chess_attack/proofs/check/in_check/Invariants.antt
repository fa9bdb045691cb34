use Rattle.std.specs.FinSet as set
use Rattle.chess_types.specs.board.Board.{man_at}
use Rattle.chess_attack.proofs.Kings.{AreLeft}
use Rattle.chess_attack.proofs.check.in_check.Given as goal

abbrev pub invariant-loop-king : goal.invariant-loop-king
invariant-loop-king l = AreLeft (man_at l.placement) l.fn.colour l.kings

abbrev pub decreases-loop-king : goal.decreases-loop-king
decreases-loop-king l = set.len l.kings
