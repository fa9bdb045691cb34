use Rattle.std.proofs.Common.{◌≡◌, ◌++◌, drop}
use Rattle.chess_moves.specs.steps.Targets.{promotions_between}
use Rattle.chess_moves.proofs.listing.add_promotions.Given as goal

-- what is listed, and what is still to come
abbrev pub invariant-loop-kind : goal.invariant-loop-kind
invariant-loop-kind l =
    l.list.items ++ drop l.kind-index (promotions_between l.from l.to) ≡ l.fn.list.items ++ promotions_between l.from l.to
