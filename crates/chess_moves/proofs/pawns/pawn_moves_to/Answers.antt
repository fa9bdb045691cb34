use Rattle.chess_moves.proofs.PawnShifts.{moves_counted}
use Rattle.chess_moves.proofs.pawns.pawn_moves_to.Goals as goal

pub returns-clause-value : goal.returns-clause-value
returns-clause-value c =
    moves_counted c.args.side c.args.squares c.last_squares.result c.intersection-last.result c.len.result c.len-2.result
    c.len.ensures.counted c.len-2.ensures.counted c.intersection-last.ensures c.last_squares.ensures
