use Rattle.std.proofs.Common.{sym, ◌∙◌, refl}
use Rattle.chess_tree.specs.GameTree.{nodes_here}
use Rattle.chess_edit.proofs.JoinLemmas.{ends_bare, go_on, has_move, next_of, none_first, ends_where_none}
use Rattle.chess_edit.proofs.joining.go_along.Goals as goal

pub loop-next-init : goal.loop-next-init
loop-next-init g c = record { same = refl; goes = refl; sound = c.requires.sound; deep = c.requires.deep }

pub unreachable-requires : goal.unreachable-requires
unreachable-requires g c = has_move c.loop-next.node.below c.in-Some.next (sym c.child.ensures ∙ c.in-Some.is) (sym c.move_at.ensures ∙ c.in_default-move_at.is)

pub returns-in_default-clause-ends : goal.returns-in_default-clause-ends
returns-in_default-clause-ends g c = ends_bare c.loop-next.node.below (nodes_here c.loop-next.tree) (none_first c.loop-next.node.below (sym c.child.ensures ∙ c.in_default.is))

pub loop-next-preserved : goal.loop-next-preserved
loop-next-preserved g c =
    let next = next_of c.loop-next.tree c.loop-next.node.below c.in-Some.next c.in-Some-move_at.m (sym c.child.ensures ∙ c.in-Some.is) (sym c.move_at.ensures ∙ c.in-Some-move_at.is) c.loop-next.invariant.sound c.loop-next.invariant.deep in
    go_on c.args.tree.now c.loop-next.tree c.step.new.self c.loop-next.node.below c.args.node.below c.in-Some.next c.in-Some-move_at.m c.in-Some-find.place next
    (sym c.find.ensures.value ∙ c.in-Some-find.is) c.in-Ok.ensures.ok c.loop-next.invariant

pub loop-next-smaller : goal.loop-next-smaller
loop-next-smaller g c =
    (next_of c.loop-next.tree c.loop-next.node.below c.in-Some.next c.in-Some-move_at.m (sym c.child.ensures ∙ c.in-Some.is) (sym c.move_at.ensures ∙ c.in-Some-move_at.is) c.loop-next.invariant.sound c.loop-next.invariant.deep).smaller

pub returns-in_default-find-clause-ends : goal.returns-in_default-find-clause-ends
returns-in_default-find-clause-ends g c =
    let next = next_of c.loop-next.tree c.loop-next.node.below c.in-Some.next c.in-Some-move_at.m (sym c.child.ensures ∙ c.in-Some.is) (sym c.move_at.ensures ∙ c.in-Some-move_at.is) c.loop-next.invariant.sound c.loop-next.invariant.deep in
    ends_where_none c.in-Some-move_at.m c.in-Some.next c.loop-next.tree c.loop-next.node.below (nodes_here c.loop-next.tree) next (sym c.find.ensures.value ∙ c.in_default-find.is)
