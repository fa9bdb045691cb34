use Rattle.chess_tree.proofs.KeptLemmas.{kept_up}
use Rattle.chess_tree.proofs.tree.Tree.back.Goals as goal

pub invariant_of-self : goal.invariant_of-self
invariant_of-self g c = (kept_up _ _ c.self.invariant _ (rw (← c.self.view_is) at c.in_ok-below_root.ensures) c.up.ensures).0

pub returns : goal.returns
returns g c = rw (← c.self.view_is) (kept_up _ _ c.self.invariant _ (rw (← c.self.view_is) at c.in_ok-below_root.ensures) c.up.ensures).1
