use Rattle.std.proofs.Common.{refl, ap}
use Rattle.chess_tree.specs.GameTree.{nodes_here}
use Rattle.chess_tree.proofs.StepLemmas.{found_legal, found_there}
use Rattle.chess_tree.proofs.tree.Tree.find.Goals as goal

pub returns-clause-there : goal.returns-clause-there
returns-clause-there g c = found_there _ _ _ _ c.find.ensures (ap nodes_here c.self.view_is)

pub returns-clause-legal : goal.returns-clause-legal
returns-clause-legal g c = rw (← c.self.view_is) (found_legal _ _ _ _ c.self.invariant c.find.ensures refl)
