use Rattle.std.proofs.Common.{◌∙◌}
use Rattle.lent_heap.proofs.Search.{taken_none}
use Rattle.lent_heap.proofs.heap.Heap.allocate_first_fit.Goals as goal

pub returns-in-None-clause-unchanged : goal.returns-in-None-clause-unchanged
returns-in-None-clause-unchanged c = c.in-None.ensures.holes ∙ taken_none _ _ c.in-None.ensures.block
