use Rattle.chess_tree.proofs.ArenaCalls.{commented_now, same_notes}
use Rattle.chess_tree.proofs.arena.Arena.set_comment.Goals as goal

pub invariant_of-self : goal.invariant_of-self
invariant_of-self g c = (same_notes _ _ _ _ _ _ _ c.self.invariant c.self.view_is _ c.in_err-set_comment.ensures.err).0

pub invariant_of-self-2 : goal.invariant_of-self-2
invariant_of-self-2 g c = (commented_now _ _ _ _ _ _ _ c.self.invariant c.self.view_is _ _ c.in_ok-set_comment.ensures.ok).0

pub returns-clause-ok : goal.returns-clause-ok
returns-clause-ok g c = (commented_now _ _ _ _ _ _ _ c.self.invariant c.self.view_is _ _ c.in_ok-set_comment.ensures.ok).1
