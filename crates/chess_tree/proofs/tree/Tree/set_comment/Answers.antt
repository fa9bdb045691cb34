use Rattle.std.proofs.Common.{rules, refl, sym, subst, ap, ◌∙◌}
use Rattle.chess_tree.specs.Comments.{IsComment}
use Rattle.chess_tree.specs.GameTree.{commented_here, line_to}
use Rattle.chess_tree.proofs.CommentLemmas.{is_comment}
use Rattle.chess_tree.proofs.KeptLemmas.{comment_is, kept_commented}
use Rattle.chess_tree.proofs.tree.Tree.set_comment.Goals as goal

pub invariant_of-self-2 : goal.invariant_of-self-2
invariant_of-self-2 g c = (kept_commented _ _ c.self.invariant _ _ c.in_ok-set_comment.ensures.ok (subst IsComment (sym c.in_ok-comment.ensures.ok) (is_comment c.args.text.now (sym c.contains.ensures.value ∙ c.if-contains.false)))).0

pub returns : goal.returns
returns g c = record {
  ok = comment_is _ _ c.self.invariant _ _ c.in_ok-set_comment.ensures.ok ∙ (λ j. commented_here (c.in_ok-comment.ensures.ok j) (c.self.view_is j));
  line = (kept_commented _ _ c.self.invariant _ _ c.in_ok-set_comment.ensures.ok (subst IsComment (sym c.in_ok-comment.ensures.ok) (is_comment c.args.text.now (sym c.contains.ensures.value ∙ c.if-contains.false)))).1 ∙ ap line_to c.self.view_is;
  err = tt;
  bad_comment = search rules;
  memory = λ _. tt;
  no_words = λ _ _. refl;
}
