use Rattle.std.proofs.Common.{◌∙◌}
use Rattle.chess_edit.proofs.JoinLemmas.{handed_on, node_full, node_gone, node_whole, unless}
use Rattle.chess_edit.proofs.joining.add_node.Goals as goal

pub returns-clause-ok : goal.returns-clause-ok
returns-clause-ok g c =
    node_whole c.args.m c.args.nags.now c.args.comment.now c.args.tree.now c.add.new.self c.note.new.tree c.in_ok-add.ensures.ok (unless c.note.result c.in_default.not-Err c.note.ensures.ok)

pub returns-clause-line : goal.returns-clause-line
returns-clause-line g c = c.note.ensures.line ∙ c.in_ok-add.ensures.line

pub returns-in-Err-clause-err : goal.returns-in-Err-clause-err
returns-in-Err-clause-err g c =
    node_gone c.args.m c.in-Err.ensures.err.0 c.delete-gone.result c.args.tree.now c.add.new.self c.note.new.tree c.delete-gone.new.self c.in_ok-add.ensures.ok c.in-Err.ensures.err.1 c.delete-gone.ensures.ok c.delete-gone.ensures.at_root

pub returns-in_err-add-clause-full : goal.returns-in_err-add-clause-full
returns-in_err-add-clause-full g c = λ e.
    node_full c.args.m c.args.nags.now c.args.comment.now c.args.tree.now c.add.result c.position-start.ensures.game.cursor c.add.ensures.memory
    (handed_on c.in_err-add.field-0.0 c.add.result c.from_residual.result c.in_err-add.was c.from_residual.ensures.1 e)
