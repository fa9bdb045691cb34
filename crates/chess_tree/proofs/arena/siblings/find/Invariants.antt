use Rattle.std.proofs.Common.{ℕ}
use Rattle.chess_tree.specs.steps.Grove.{Grove}
use Rattle.chess_tree.specs.steps.Rooted.{Noted}
use Rattle.chess_tree.specs.steps.Siblings.{Owner}
use Rattle.chess_tree.proofs.SiblingLemmas.{Without}
use Rattle.chess_tree.proofs.arena.siblings.find.Given as goal

abbrev pub invariant-loop-place : goal.invariant-loop-place
invariant-loop-place g l = (below : Grove) → Owner l.nodes l.at below → (noted : ℕ → Noted) → Without l.played l.place below noted
