use Rattle.std.proofs.Common.{sym, ap, ◌∙◌}
use Rattle.chess_tree.specs.Forest.{NodeParts}
use Rattle.chess_report.specs.MainLine.{main}
use Rattle.chess_report.proofs.FollowLemmas.{has_move}
use Rattle.chess_positions.specs.Rows.{ply_text}
use Rattle.chess_positions.proofs.RowLemmas.{begun, ended, gone_on, next_move}
use Rattle.chess_positions.proofs.plies.follow.Goals as goal

pub loop-next-init : goal.loop-next-init
loop-next-init g c =
    let tree = c.args.tree.now.tree in
    let row = ply_text c.args.layout.now.format c.args.layout.now.columns.items c.args.of.number c.args.of.outcome in
    record {
      underway = begun row tree c.args.line.now.line c.put_row.new.line.line c.args.out.now.items c.put_row.new.out.items c.root-node.result.below c.requires.start c.requires.sound c.requires.deep
          c.in_ok-put_row.ensures.text c.in_ok-put_row.ensures.as_before.line (ap (λ (n : NodeParts). n.below) c.root-node.ensures);
      still = c.in_ok-put_row.ensures.as_before.looked ∙ c.requires.none;
    }

pub unreachable-requires : goal.unreachable-requires
unreachable-requires g c = has_move c.loop-next.node.below c.in-Some.next (sym c.child.ensures ∙ c.in-Some.is) (sym c.move_at.ensures ∙ c.in_default-move_at.is)

pub make-requires-clause-none : goal.make-requires-clause-none
make-requires-clause-none g c = c.loop-next.invariant.still

pub make-requires-clause-legal : goal.make-requires-clause-legal
make-requires-clause-legal g c =
    (next_move _ (main c.args.tree.now.tree) c.loop-next.line.line c.args.out.now.items c.loop-next.out.items c.loop-next.node.below _ c.in-Some.next _ c.in-Some-move_at.played c.in-Some.is c.child.ensures c.in-Some-move_at.is c.move_at.ensures
    c.loop-next.invariant.underway).legal

pub make-requires-clause-few : goal.make-requires-clause-few
make-requires-clause-few g c =
    (next_move _ (main c.args.tree.now.tree) c.loop-next.line.line c.args.out.now.items c.loop-next.out.items c.loop-next.node.below _ c.in-Some.next _ c.in-Some-move_at.played c.in-Some.is c.child.ensures c.in-Some-move_at.is c.move_at.ensures
    c.loop-next.invariant.underway).few

pub loop-next-smaller : goal.loop-next-smaller
loop-next-smaller g c =
    (next_move _ (main c.args.tree.now.tree) c.loop-next.line.line c.args.out.now.items c.loop-next.out.items c.loop-next.node.below _ c.in-Some.next _ c.in-Some-move_at.played c.in-Some.is c.child.ensures c.in-Some-move_at.is c.move_at.ensures
    c.loop-next.invariant.underway).smaller

pub loop-next-preserved : goal.loop-next-preserved
loop-next-preserved g c =
    let whole = main c.args.tree.now.tree in
    let row = ply_text c.args.layout.now.format c.args.layout.now.columns.items c.args.of.number c.args.of.outcome in
    let a = c.in_ok-put_row-2.ensures in
    let next =
    next_move row whole c.loop-next.line.line c.args.out.now.items c.loop-next.out.items c.loop-next.node.below _ c.in-Some.next _ c.in-Some-move_at.played c.in-Some.is c.child.ensures c.in-Some-move_at.is c.move_at.ensures
    c.loop-next.invariant.underway in
    record {
      underway = gone_on row whole c.loop-next.line.line c.make.new.line.line c.put_row-in-Some.new.line.line c.args.out.now.items c.loop-next.out.items c.put_row-in-Some.new.out.items c.loop-next.node.below c.in-Some.next.below
          c.in-Some-move_at.played next c.loop-next.invariant.underway c.in_ok-made.ensures.line a.text a.as_before.line;
      still = a.as_before.looked ∙ c.in_ok-made.ensures.none;
    }

pub returns : goal.returns
returns g c =
    ended (ply_text c.args.layout.now.format c.args.layout.now.columns.items c.args.of.number c.args.of.outcome) (main c.args.tree.now.tree) c.loop-next.line.line c.args.out.now.items c.loop-next.out.items c.loop-next.node.below _
    c.in_default.is c.child.ensures c.loop-next.invariant.underway
