use Rattle.std.proofs.Common.{◌∙◌}
use Rattle.chess_tree_tests.proofs.ReplayLemmas.{added_position}
use Rattle.chess_tree_tests.proofs.tests.trees.add_on.Goals as goal

pub returns-clause-ok : goal.returns-clause-ok
returns-clause-ok g c = added_position _ _ _ _ _ c.in_ok-grow.ensures.line (c.assert_legal.ensures.position ∙ c.requires) c.make_on.ensures
