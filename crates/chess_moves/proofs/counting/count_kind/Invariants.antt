use Rattle.std.proofs.Common.{◌≡◌, ◌+◌, true, length, filter}
use Rattle.std.specs.FinSet.{contains}
use Rattle.std.specs.List.{flat_map, list_all}
use Rattle.chess_types.specs.board.Legal.{is_legal, moves_from}
use Rattle.chess_moves.specs.steps.Kinds.{legal_from}
use Rattle.chess_moves.proofs.counting.count_kind.Given as goal

-- the squares still to come are of the set, and the moves counted and those from there are all of the set's
abbrev pub invariant-loop-from : goal.invariant-loop-from
invariant-loop-from g l = record {
  can : (goal.iterator-loop-from g).can_next l.from-iterator;
  finite : (goal.iterator-loop-from g).is_finite l.from-iterator;
  within : list_all (contains l.fn.men) l.from-iterator ≡ true;
  left : l.count + length (filter (is_legal l.fn.live.position) (flat_map moves_from l.from-iterator)) ≡ legal_from l.fn.live.position (contains l.fn.men);
}
