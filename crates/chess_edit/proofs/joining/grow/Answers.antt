use Rattle.std.proofs.Common.{sym, ap, subst, ◌∙◌, inl, refl, arith}
use Rattle.chess_tree.specs.GameTree.{TreeParts}
use Rattle.chess_edit.specs.steps.Branches.{Begun}
use Rattle.chess_edit.proofs.JoinLemmas.{grow_on, has_move, line_full, next_of, none_first, unless, whole, whole_end}
use Rattle.chess_edit.proofs.joining.grow.Goals as goal

pub loop-next-init : goal.loop-next-init
loop-next-init g c = record { begun = inl refl; goes = refl; sound = c.requires.sound; deep = c.requires.deep }

pub unreachable-requires : goal.unreachable-requires
unreachable-requires g c = has_move c.loop-next.node.below c.in-Some.next (sym c.child.ensures ∙ c.in-Some.is) (sym c.move_at.ensures ∙ c.in_default-move_at.is)

pub add_node-requires-clause-legal : goal.add_node-requires-clause-legal
add_node-requires-clause-legal g c =
    (next_of c.loop-next.tree c.loop-next.node.below c.in-Some.next c.in-Some-move_at.m (sym c.child.ensures ∙ c.in-Some.is) (sym c.move_at.ensures ∙ c.in-Some-move_at.is) c.loop-next.invariant.sound c.loop-next.invariant.deep).legal

pub add_node-requires-clause-deep : goal.add_node-requires-clause-deep
add_node-requires-clause-deep g c =
    let next = next_of c.loop-next.tree c.loop-next.node.below c.in-Some.next c.in-Some-move_at.m (sym c.child.ensures ∙ c.in-Some.is) (sym c.move_at.ensures ∙ c.in-Some-move_at.is) c.loop-next.invariant.sound c.loop-next.invariant.deep in
    omega (arith, next.short)

pub add_node-requires-clause-comment : goal.add_node-requires-clause-comment
add_node-requires-clause-comment g c =
    let next = next_of c.loop-next.tree c.loop-next.node.below c.in-Some.next c.in-Some-move_at.m (sym c.child.ensures ∙ c.in-Some.is) (sym c.move_at.ensures ∙ c.in-Some-move_at.is) c.loop-next.invariant.sound c.loop-next.invariant.deep in
    rw c.notes-notes.ensures.comment next.comment

pub loop-next-smaller : goal.loop-next-smaller
loop-next-smaller g c =
    (next_of c.loop-next.tree c.loop-next.node.below c.in-Some.next c.in-Some-move_at.m (sym c.child.ensures ∙ c.in-Some.is) (sym c.move_at.ensures ∙ c.in-Some-move_at.is) c.loop-next.invariant.sound c.loop-next.invariant.deep).smaller

pub loop-next-preserved : goal.loop-next-preserved
loop-next-preserved g c =
    let next = next_of c.loop-next.tree c.loop-next.node.below c.in-Some.next c.in-Some-move_at.m (sym c.child.ensures ∙ c.in-Some.is) (sym c.move_at.ensures ∙ c.in-Some-move_at.is) c.loop-next.invariant.sound c.loop-next.invariant.deep in
    grow_on c.args.tree.now c.loop-next.tree c.add_node.new.tree c.loop-next.node.below c.args.node.below c.in-Some.next c.in-Some-move_at.m c.notes-notes.result.nags.now c.notes-notes.result.comment.now next
    c.notes-notes.ensures.nags c.notes-notes.ensures.comment (unless c.add_node.result c.in_default-add_node.not-Err c.add_node.ensures.ok) (unless c.add_node.result c.in_default-add_node.not-Err c.add_node.ensures.line) c.loop-next.invariant

pub returns-in_default-clause-ok : goal.returns-in_default-clause-ok
returns-in_default-clause-ok g c =
    sym (whole_end c.loop-next.tree) ∙ ap (whole c.loop-next.tree) (sym (none_first c.loop-next.node.below (sym c.child.ensures ∙ c.in_default.is))) ∙ c.loop-next.invariant.goes

pub returns-in-Err-clause-err : goal.returns-in-Err-clause-err
returns-in-Err-clause-err g c = subst (λ (t : TreeParts). Begun c.args.tree.now t) (sym c.in-Err.ensures.err) c.loop-next.invariant.begun

pub returns-in-Err-clause-full : goal.returns-in-Err-clause-full
returns-in-Err-clause-full g c = λ e.
    let next = next_of c.loop-next.tree c.loop-next.node.below c.in-Some.next c.in-Some-move_at.m (sym c.child.ensures ∙ c.in-Some.is) (sym c.move_at.ensures ∙ c.in-Some-move_at.is) c.loop-next.invariant.sound c.loop-next.invariant.deep in
    line_full c.args.tree.now c.loop-next.tree c.in-Some-move_at.m c.in-Some.next c.notes-notes.result.nags.now c.notes-notes.result.comment.now c.loop-next.node.below c.args.node.below next
    c.notes-notes.ensures.nags c.notes-notes.ensures.comment (c.add_node.ensures.full (c.in-Err.is ∙ e)) c.loop-next.invariant.goes
