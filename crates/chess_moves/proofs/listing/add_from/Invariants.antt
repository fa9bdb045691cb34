use Rattle.std.proofs.Common.{◌≡◌, true}
use Rattle.std.specs.List.{list_all, flat_map}
use Rattle.chess_types.specs.board.Legal.{moves_between, moves_from}
use Rattle.chess_moves.specs.steps.Targets.{is_legal_target}
use Rattle.chess_moves.proofs.Pieces.{Listed}
use Rattle.chess_moves.proofs.listing.add_from.Given as goal

-- the man's move to each square still to come is legal
abbrev pub invariant-loop-to : goal.invariant-loop-to
invariant-loop-to g l = record {
  can : (goal.iterator-loop-to g).can_next l.to-iterator;
  finite : (goal.iterator-loop-to g).is_finite l.to-iterator;
  is_legal_target : list_all (is_legal_target l.fn.live.position l.kind l.from) l.to-iterator ≡ true;
  listed : Listed l.fn.live.position l.fn.list.items l.list.items (moves_from l.from) (flat_map (moves_between l.from) l.to-iterator);
}
