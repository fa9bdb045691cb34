use Rattle.std.proofs.Common.{filter, refl}
use Rattle.std.specs.FinSet.{contains}
use Rattle.chess_types.specs.board.Squares.{squares}
use Rattle.chess_types.specs.board.Position.{PositionParts}
use Rattle.chess_moves.proofs.Bound.{legal_few}
use Rattle.chess_moves.proofs.CountSplit.{begun}
use Rattle.chess_moves.proofs.counting.has_legal.Goals as goal

pub count_on-requires-clause-begun : goal.count_on-requires-clause-begun
count_on-requires-clause-begun g c =
    let p : PositionParts = c.args.live.now.position in
    begun p c.position.result.now c.position.ensures.setup c.check_info-guard.result c.check_info-guard.ensures c.own_men-own.result c.free_pawns-free.result c.difference.result
    c.count_pawns-begun.result (filter (contains c.difference.result) squares) c.own_men-own.ensures.own c.free_pawns-free.ensures c.difference.ensures c.position.ensures.value c.count_pawns-begun.ensures refl

pub count_on-requires-clause-few : goal.count_on-requires-clause-few
count_on-requires-clause-few g c = legal_few c.args.live.now.position c.own_men-own.ensures.few
