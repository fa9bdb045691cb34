use Rattle.std.proofs.Common.{List, ℕ, ap, ◌∙◌}
use Rattle.chess_tree.specs.GameTree.{commented_here}
use Rattle.chess_edit.proofs.JoinLemmas.{else, then}
use Rattle.chess_edit.proofs.joining.note.Goals as goal

pub returns-clause-ok : goal.returns-clause-ok
returns-clause-ok g c =
    then c.set_comment.result c.set_comment.ensures.ok
    (λ e. e ∙ ap (λ (x : List ℕ). commented_here x c.annotate.new.tree) c.requires.comment.normal ∙ ap (commented_here c.args.comment.now) c.in_ok-annotate.ensures.ok)

pub returns-clause-err : goal.returns-clause-err
returns-clause-err g c = else c.set_comment.result c.set_comment.ensures.err (λ e. (c.args.nags.now, e ∙ c.in_ok-annotate.ensures.ok))

pub returns-clause-line : goal.returns-clause-line
returns-clause-line g c = c.set_comment.ensures.line ∙ c.annotate.ensures.line
