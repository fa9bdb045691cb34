use Rattle.std.proofs.Common.{◌≤◌, length, ap, ◌∙◌, arith}
use Rattle.std.specs.List.{flat_map}
use Rattle.chess_types.specs.board.Legal.{moves_from, legal_moves}
use Rattle.chess_types.specs.board.Position.{PositionParts}
use Rattle.chess_moves.proofs.Bound.{legal_few}
use Rattle.chess_moves.proofs.Pieces.{room_next, listed_end, next_piece}
use Rattle.chess_moves.proofs.Reach.{own_first}
use Rattle.chess_moves.proofs.Still.{still_first}
use Rattle.chess_moves.proofs.listing.moves_into.Goals as goal

pub loop-from-init : goal.loop-from-init
loop-from-init g c =
    let first =
    own_first c.args.live.now.position c.own_men-own.result c.own_men-own.ensures.own c.into_iter-from-iterator.result
    (c.into_iter-from-iterator.ensures.into_iter_gives ∙ c.iter-from-items.ensures.value) c.clear.ensures in
    record { can = tt; finite = tt; here = record { still = still_first; own = first.0 }; listed = first.1 }

pub add_from-requires-clause-room : goal.add_from-requires-clause-room
unfolding legal_moves
add_from-requires-clause-room g c =
    let p : PositionParts = c.args.live.now.position in
    let few : length (legal_moves p) ≤ 432 = legal_few p c.own_men-own.ensures.few in
    room_next c.loop-from.invariant.here.still.position c.loop-from.invariant.listed (next_piece moves_from c.in-Some.ensures.steps) (omega arith)

pub returns-clause-listed : goal.returns-clause-listed
unfolding legal_moves
returns-clause-listed g c = listed_end c.loop-from.invariant.listed (ap (flat_map moves_from) c.in-None.ensures.steps.0)
