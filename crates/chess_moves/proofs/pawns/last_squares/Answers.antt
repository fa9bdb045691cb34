use Rattle.std.proofs.Common.{◌==◌, ◌&&◌, ltb, sym, ap, ◌∙◌}
use Rattle.chess_types.specs.board.Squares.{rank_of}
use Rattle.chess_types.specs.board.Pseudo.{last_rank}
use Rattle.chess_moves.proofs.pawns.last_squares.Goals as goal

pub returns-in-White : goal.returns-in-White
returns-in-White c = λ s. c.rank.ensures s ∙ ap (λ side. ltb s 64 && (rank_of s == last_rank side)) (sym c.in-White.is)

pub returns-in-Black : goal.returns-in-Black
returns-in-Black c = λ s. c.rank-in-Black.ensures s ∙ ap (λ side. ltb s 64 && (rank_of s == last_rank side)) (sym c.in-Black.is)
