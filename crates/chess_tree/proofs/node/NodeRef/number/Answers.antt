use Rattle.std.proofs.Common.{arith}
use Rattle.chess_tree.proofs.ViewLemmas.{viewed_range}
use Rattle.chess_tree.proofs.node.NodeRef.number.Goals as goal

pub returns-clause-few : goal.returns-clause-few
returns-clause-few g c = let r = viewed_range _ _ c.self.invariant in omega (arith, r, c.self.invariant.few, c.number.ensures)
