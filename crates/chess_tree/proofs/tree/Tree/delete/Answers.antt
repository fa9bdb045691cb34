use Rattle.chess_tree.proofs.KeptLemmas.{kept_deleted}
use Rattle.chess_tree.proofs.tree.Tree.delete.Goals as goal

pub invariant_of-self : goal.invariant_of-self
invariant_of-self g c = (kept_deleted _ _ c.self.invariant _ (rw (← c.self.view_is) at c.in_ok-below_root.ensures) c.remove.ensures).0

pub returns : goal.returns
returns g c = rw (← c.self.view_is) (kept_deleted _ _ c.self.invariant _ (rw (← c.self.view_is) at c.in_ok-below_root.ensures) c.remove.ensures).1
