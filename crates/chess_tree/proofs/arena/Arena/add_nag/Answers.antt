use Rattle.chess_tree.proofs.ArenaCalls.{annotated_now, same_notes}
use Rattle.chess_tree.proofs.arena.Arena.add_nag.Goals as goal

pub invariant_of-self : goal.invariant_of-self
invariant_of-self g c = (same_notes _ _ _ _ _ _ _ c.self.invariant c.self.view_is _ c.in_err-add_nag.ensures.err).0

pub invariant_of-self-2 : goal.invariant_of-self-2
invariant_of-self-2 g c = (annotated_now _ _ _ _ _ _ _ c.self.invariant c.self.view_is _ _ c.requires c.in_ok-add_nag.ensures.ok).0

pub returns-clause-ok : goal.returns-clause-ok
returns-clause-ok g c = (annotated_now _ _ _ _ _ _ _ c.self.invariant c.self.view_is _ _ c.requires c.in_ok-add_nag.ensures.ok).1
