use Rattle.std.proofs.Common.{[]}
use Rattle.std.specs.List.{flat_map}
use Rattle.chess_types.specs.board.Legal.{moves_from, all_moves}
use Rattle.chess_moves.proofs.Pieces.{Listed}
use Rattle.chess_moves.proofs.Still.{IsOnOwn}
use Rattle.chess_moves.proofs.listing.moves_into.Given as goal

-- a man of the side to move stands on each square still to come
abbrev pub invariant-loop-from : goal.invariant-loop-from
invariant-loop-from g l = record {
  can : (goal.iterator-loop-from g).can_next l.from-iterator;
  finite : (goal.iterator-loop-from g).is_finite l.from-iterator;
  here : IsOnOwn l.live l.fn.live l.from-iterator;
  listed : Listed l.fn.live.position [] l.list.items all_moves (flat_map moves_from l.from-iterator);
}
