use Rattle.std.proofs.Common.{◌+◌, filter, refl, ap, ◌∙◌, arith}
use Rattle.std.specs.Ordering.{nat_cmp}
use Rattle.std.specs.FinSet.{FinSet, contains, difference}
use Rattle.chess_types.specs.board.Squares.{squares}
use Rattle.chess_types.specs.board.Position.{PositionParts}
use Rattle.chess_moves.specs.steps.Kinds.{Begun}
use Rattle.chess_moves.proofs.Bound.{legal_few}
use Rattle.chess_moves.proofs.CountSplit.{begun}
use Rattle.chess_moves.proofs.KindCounts.{begun_on}
use Rattle.chess_moves.proofs.counting.count_legal.Goals as goal
use Rattle.chess_moves.proofs.counting.count_legal.Given.{Over}
use Rattle.chess_moves.proofs.counting.count_legal.Goals.{After-count_pawns-pawns}

-- the free pawns' moves, and those from the other squares
pawns_first : (g : Over) (c : After-count_pawns-pawns g) → Begun c.args.live.now.position c.count_pawns-pawns.result (filter (contains (difference c.own_men-own.result c.free_pawns-free.result)) squares)
pawns_first g c =
    let p : PositionParts = c.args.live.now.position in
    let others = difference c.own_men-own.result c.free_pawns-free.result in
    begun p c.position.result.now c.position.ensures.setup c.check_info-guard.result c.check_info-guard.ensures c.own_men-own.result c.free_pawns-free.result others
    c.count_pawns-pawns.result (filter (contains others) squares) c.own_men-own.ensures.own c.free_pawns-free.ensures refl c.position.ensures.value c.count_pawns-pawns.ensures refl

pub overflow_add-begun-4 : goal.overflow_add-begun-4
overflow_add-begun-4 g c =
    omega (
      arith,
      (pawns_first g (goal.at.overflow_add-begun-4 g c).After-count_pawns-pawns).left,
      legal_few c.args.live.now.position c.own_men-own.ensures.few,
      c.count_kind-knight_moves.ensures.at_most,
      c.count_kind-bishop_moves.ensures.at_most,
      c.count_kind-rook_moves.ensures.at_most,
      c.count_kind-queen_moves.ensures.at_most,
    )

pub count_on-requires-clause-begun : goal.count_on-requires-clause-begun
count_on-requires-clause-begun g c =
    let p : PositionParts = c.args.live.now.position in
    let knights = c.own_pieces-knights.result in
    let bishops = c.own_pieces-bishops.result in
    let rooks = c.own_pieces-rooks.result in
    let queens = c.own_pieces-queens.result in
    begun_on p c.own_men-own.result c.free_pawns-free.result knights bishops rooks queens c.difference-rest.result c.own_men-own.ensures.own c.free_pawns-free.ensures
    c.own_pieces-knights.ensures c.own_pieces-bishops.ensures c.own_pieces-rooks.ensures c.own_pieces-queens.ensures
    (c.difference-rest.ensures
    ∙ ap (λ (s : FinSet nat_cmp). difference s queens) (c.difference-3.ensures
    ∙ ap (λ (s : FinSet nat_cmp). difference s rooks) (c.difference-others.ensures
    ∙ ap (λ (s : FinSet nat_cmp). difference s bishops) (c.difference-2.ensures ∙ ap (λ (s : FinSet nat_cmp). difference s knights) c.difference.ensures))))
    c.count_pawns-pawns.result _ (pawns_first g (goal.at.count_on-requires-clause-begun g c).After-count_pawns-pawns)
    (λ i. c.count_pawns-pawns.result
    + (c.count_kind-knight_moves.ensures.count i + (c.count_kind-bishop_moves.ensures.count i + (c.count_kind-rook_moves.ensures.count i + c.count_kind-queen_moves.ensures.count i))))

pub count_on-requires-clause-few : goal.count_on-requires-clause-few
count_on-requires-clause-few g c = legal_few c.args.live.now.position c.own_men-own.ensures.few
