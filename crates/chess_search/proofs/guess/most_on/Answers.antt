use Rattle.std.proofs.Common.{arith}
use Rattle.chess_search.proofs.RootLemmas.{listed_legal}
use Rattle.chess_search.proofs.guess.most_on.Goals as goal

pub sums_after-requires-clause-legal : goal.sums_after-requires-clause-legal
sums_after-requires-clause-legal g c =
    rw (c.live-live.ensures.position, c.m.view_is)
    (listed_legal _ _ c.as_slice-m-items.result.now c.loop-m.m-index c.m-item.result (rw c.as_slice-m-items.ensures.value c.moves_into.ensures.listed) c.moves_into.ensures.as_before.line (omega arith) c.m-item.is)
