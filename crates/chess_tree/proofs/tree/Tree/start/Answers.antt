use Rattle.std.proofs.Common.{sym, ◌∙◌}
use Rattle.chess_tree.proofs.WalkLemmas.{back_smaller}
use Rattle.chess_tree.proofs.tree.Tree.start.Goals as goal

pub loop-smaller : goal.loop-smaller
loop-smaller g c = back_smaller c.back.result _ _ (sym c.is_ok.ensures.value ∙ c.loop-test.true) c.back.ensures
