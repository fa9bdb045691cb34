use Rattle.std.proofs.Common.{◌∙◌, subst}
use Rattle.chess_types.specs.board.Position.{IsSetup}
use Rattle.chess_tree.proofs.KeptLemmas.{kept_new}
use Rattle.chess_tree.proofs.tree.Tree.new.Goals as goal

pub invariant_of-result : goal.invariant_of-result
invariant_of-result g c =
    kept_new _ _ c.in_ok-nodes.ensures (subst IsSetup (c.behind-start.view_is ∙ c.setup.ensures.value) c.behind-start.invariant) c.setup.ensures.quiet c.requires.clock c.requires.number
