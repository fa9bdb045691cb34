use Rattle.chess_tree.proofs.ArenaCalls.{unannotated_now}
use Rattle.chess_tree.proofs.arena.Arena.clear_nags.Goals as goal

pub invariant_of-self : goal.invariant_of-self
invariant_of-self g c = (unannotated_now _ _ _ _ _ _ _ c.self.invariant c.self.view_is _ c.requires c.clear_nags.ensures).0

pub returns : goal.returns
returns g c = (unannotated_now _ _ _ _ _ _ _ c.self.invariant c.self.view_is _ c.requires c.clear_nags.ensures).1
