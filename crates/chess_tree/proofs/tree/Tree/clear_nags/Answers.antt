use Rattle.std.proofs.Common.{rules, ap, ◌∙◌}
use Rattle.chess_tree.specs.GameTree.{line_to}
use Rattle.chess_tree.proofs.KeptLemmas.{kept_unannotated}
use Rattle.chess_tree.proofs.tree.Tree.clear_nags.Goals as goal

pub invariant_of-self : goal.invariant_of-self
invariant_of-self g c = (kept_unannotated _ _ c.self.invariant _ c.clear_nags.ensures).0

pub returns : goal.returns
returns g c = record {
  ok = search rules;
  line = (kept_unannotated _ _ c.self.invariant _ c.clear_nags.ensures).1 ∙ ap line_to c.self.view_is;
  err = tt;
  at_root = c.in_ok-below_root.ensures;
}
