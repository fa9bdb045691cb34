use Rattle.std.proofs.Common.{sym, subst, ◌∙◌}
use Rattle.chess_tree.specs.WellFormed.{IsGameTree}
use Rattle.chess_tree.proofs.AnalysisLemmas.{no_longer}
use Rattle.chess_tree.proofs.tree.Tree.check_path.Goals as goal

pub returns-clause-short : goal.returns-clause-short
returns-clause-short g c = no_longer c.args.self.now c.args.path.now (subst IsGameTree c.self.view_is c.self.invariant) (sym c.has.ensures ∙ c.if-not-has.false)
