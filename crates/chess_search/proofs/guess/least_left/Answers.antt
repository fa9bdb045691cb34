use Rattle.std.proofs.Common.{arith}
use Rattle.chess_search.proofs.RootLemmas.{listed_legal}
use Rattle.chess_search.proofs.guess.least_left.Goals as goal

pub left_after-requires-clause-legal : goal.left_after-requires-clause-legal
left_after-requires-clause-legal g c =
    rw c.m.view_is
    (listed_legal _ _ c.as_slice-m-items.result.now c.loop-m.m-index c.m-item.result (rw c.as_slice-m-items.ensures.value c.moves_into.ensures.listed) c.loop-m.invariant.line (omega arith) c.m-item.is)
