use Rattle.std.proofs.Common.{arith}
use Rattle.chess_search.proofs.RootLemmas.{root_legal}
use Rattle.chess_search_tests.proofs.tests.plain.plain_best.Goals as goal

pub plain_worth-value-requires-clause-legal : goal.plain_worth-value-requires-clause-legal
plain_worth-value-requires-clause-legal g c =
    let i = c.loop-m.invariant.line in
    root_legal c.args.line.now.line _ c.as_slice-m-items.result.now c.loop-m.m-index c.m-item.result (rw c.as_slice-m-items.ensures.value c.requires.asked.legal) (omega arith) c.m-item.is i.line
