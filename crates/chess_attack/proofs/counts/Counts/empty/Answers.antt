use Rattle.std.specs.Ordering.{nat_cmp}
use Rattle.std.specs.FinMap.{empty, get-empty}
use Rattle.chess_attack.proofs.Shown.{counts_none}
use Rattle.chess_attack.proofs.counts.Counts.empty.Goals as goal

pub returns-clause-agrees : goal.returns-clause-agrees
returns-clause-agrees c = counts_none c.zero.result empty c.zero.ensures.counts (λ t. get-empty nat_cmp t)
