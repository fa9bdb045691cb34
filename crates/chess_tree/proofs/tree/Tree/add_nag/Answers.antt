use Rattle.std.proofs.Common.{rules, ap, ◌∙◌}
use Rattle.chess_tree.specs.GameTree.{line_to}
use Rattle.chess_tree.proofs.KeptLemmas.{kept_annotated}
use Rattle.chess_tree.proofs.tree.Tree.add_nag.Goals as goal

pub invariant_of-self-2 : goal.invariant_of-self-2
invariant_of-self-2 g c = (kept_annotated _ _ c.self.invariant _ _ c.in_ok-add_nag.ensures.ok).0

pub returns : goal.returns
returns g c = record {
  ok = search rules;
  line = (kept_annotated _ _ c.self.invariant _ _ c.in_ok-add_nag.ensures.ok).1 ∙ ap line_to c.self.view_is;
  err = tt;
  at_root = search rules;
  memory = λ _. tt;
}
