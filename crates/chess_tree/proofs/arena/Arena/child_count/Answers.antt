use Rattle.std.proofs.Common.{◌∙◌}
use Rattle.chess_tree.proofs.ArenaCalls.{counted, here_few, here_range}
use Rattle.chess_tree.proofs.arena.Arena.child_count.Goals as goal

pub child_count-requires-clause-there : goal.child_count-requires-clause-there
child_count-requires-clause-there g c = here_range _ _ _ _ _ _ _ c.self.invariant c.self.view_is

pub child_count-requires-clause-few : goal.child_count-requires-clause-few
child_count-requires-clause-few g c = here_few _ _ _ _ _ _ _ c.self.invariant c.self.view_is

pub returns : goal.returns
returns g c = c.child_count.ensures ∙ counted _ _ _ _ _ _ _ c.self.invariant c.self.view_is
