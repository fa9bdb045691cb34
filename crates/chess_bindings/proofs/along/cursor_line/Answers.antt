use Rattle.std.proofs.Common.{rules, ◌+◌, sym, subst}
use Rattle.chess_tree.specs.Forest.{NodeParts}
use Rattle.chess_bindings.proofs.AlongLemmas.{Along, along_legal, along_on, along_place, along_start, child_move, has_child, has_place}
use Rattle.chess_bindings.proofs.along.cursor_line.Goals as goal

pub loop-ply-init : goal.loop-ply-init
loop-ply-init g c = record {
  along = subst (λ (n : NodeParts). Along c.args.tree.now c.reserve.new.self.line n.below 0) (sym c.root-node.ensures) (along_start c.args.tree.now c.reserve.new.self.line (search rules) c.position.ensures.game);
  still = search rules;
  room = search rules;
}

pub unreachable-requires-in_default-path_at : goal.unreachable-requires-in_default-path_at
unreachable-requires-in_default-path_at g c = has_place c.args.tree.now.path c.loop-ply.ply (search rules) (search rules)

pub unreachable-requires-in_default-child : goal.unreachable-requires-in_default-child
unreachable-requires-in_default-child g c =
    has_child c.in-Some.place c.loop-ply.node.below (along_place c.args.tree.now c.loop-ply.line.line c.loop-ply.node.below c.loop-ply.ply c.in-Some.place (search rules) c.loop-ply.invariant.along) (search rules)

pub unreachable-requires-in_default-move_at : goal.unreachable-requires-in_default-move_at
unreachable-requires-in_default-move_at g c = child_move c.in-Some.place c.loop-ply.node.below c.in-Some-child.next (search rules) (search rules)

pub push_prepared-requires-clause-legal : goal.push_prepared-requires-clause-legal
push_prepared-requires-clause-legal g c =
    along_legal c.args.tree.now c.loop-ply.line.line c.loop-ply.node.below c.loop-ply.ply c.in-Some.place c.in-Some-child.next c.in-Some-move_at.m (search rules) (search rules) c.loop-ply.invariant.along

pub loop-ply-preserved : goal.loop-ply-preserved
loop-ply-preserved g c = record {
  along = subst (λ l. Along c.args.tree.now l c.in-Some-child.next.below (c.loop-ply.ply + 1)) (sym c.push_prepared.ensures.line)
      (along_on c.args.tree.now c.loop-ply.line.line c.loop-ply.node.below c.loop-ply.ply c.in-Some.place c.in-Some-child.next c.in-Some-move_at.m (search rules) (search rules) (search rules) c.loop-ply.invariant.along);
  still = c.push_prepared.ensures.looked;
  room = search rules;
}
