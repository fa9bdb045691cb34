use Rattle.std.proofs.Common.{◌≡◌, ◌+◌, length, filter}
use Rattle.std.specs.List.{flat_map}
use Rattle.chess_types.specs.board.Legal.{is_legal, moves_from, legal_moves}
use Rattle.chess_moves.proofs.Still.{IsOnOwn}
use Rattle.chess_moves.proofs.counting.count_on.Given as goal

-- the moves counted and those from there are all
abbrev pub invariant-loop-from : goal.invariant-loop-from
invariant-loop-from g l = record {
  can : (goal.iterator-loop-from g).can_next l.from-iterator;
  finite : (goal.iterator-loop-from g).is_finite l.from-iterator;
  here : IsOnOwn l.live l.fn.live l.from-iterator;
  left : l.count + length (filter (is_legal l.fn.live.position) (flat_map moves_from l.from-iterator)) ≡ length (legal_moves l.fn.live.position);
}
