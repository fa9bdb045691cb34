use Rattle.std.proofs.Common.{sym, ap, ◌∙◌}
use Rattle.chess_tree.specs.Forest.{NodeParts}
use Rattle.chess_report.specs.MainLine.{main}
use Rattle.chess_report.proofs.FollowLemmas.{has_move}
use Rattle.chess_report.proofs.UnderwayLemmas.{begun, ended, gone_on, next_move}
use Rattle.chess_report.proofs.report.follow.Goals as goal

pub loop-next-init : goal.loop-next-init
loop-next-init g c =
    let tree = c.args.tree.now.tree in
    let a = c.add.ensures in
    record {
      underway = begun tree c.args.line.now.line c.add.new.line.line c.new-tally.result c.add.new.self c.root-node.result.below c.requires.start c.requires.sound c.requires.deep
          (record { over = c.new-tally.ensures.over; threefold = c.new-tally.ensures.threefold; fifty = c.new-tally.ensures.fifty; repetitions = c.new-tally.ensures.repetitions; quiet = c.new-tally.ensures.quiet })
          (record { over = a.over; threefold = a.threefold; fifty = a.fifty; repetitions = a.repetitions; quiet = a.quiet }) a.as_before.line (ap (λ (n : NodeParts). n.below) c.root-node.ensures);
      still = a.as_before.looked ∙ c.requires.none;
    }

pub unreachable-requires : goal.unreachable-requires
unreachable-requires g c = has_move c.loop-next.node.below c.in-Some.next (sym c.child.ensures ∙ c.in-Some.is) (sym c.move_at.ensures ∙ c.in_default-move_at.is)

pub push-requires-clause-none : goal.push-requires-clause-none
push-requires-clause-none g c = c.loop-next.invariant.still

pub push-requires-clause-legal : goal.push-requires-clause-legal
push-requires-clause-legal g c =
    (next_move (main c.args.tree.now.tree) c.loop-next.line.line c.loop-next.tally c.loop-next.node.below _ c.in-Some.next _ c.in-Some-move_at.played c.in-Some.is c.child.ensures c.in-Some-move_at.is c.move_at.ensures c.loop-next.invariant.underway).legal

pub push-requires-clause-few : goal.push-requires-clause-few
push-requires-clause-few g c =
    (next_move (main c.args.tree.now.tree) c.loop-next.line.line c.loop-next.tally c.loop-next.node.below _ c.in-Some.next _ c.in-Some-move_at.played c.in-Some.is c.child.ensures c.in-Some-move_at.is c.move_at.ensures c.loop-next.invariant.underway).few

pub loop-next-smaller : goal.loop-next-smaller
loop-next-smaller g c =
    (next_move (main c.args.tree.now.tree) c.loop-next.line.line c.loop-next.tally c.loop-next.node.below _ c.in-Some.next _ c.in-Some-move_at.played c.in-Some.is c.child.ensures c.in-Some-move_at.is c.move_at.ensures c.loop-next.invariant.underway).smaller

pub loop-next-preserved : goal.loop-next-preserved
loop-next-preserved g c =
    let whole = main c.args.tree.now.tree in
    let a = c.add-in-Some.ensures in
    let next = next_move whole c.loop-next.line.line c.loop-next.tally c.loop-next.node.below _ c.in-Some.next _ c.in-Some-move_at.played c.in-Some.is c.child.ensures c.in-Some-move_at.is c.move_at.ensures c.loop-next.invariant.underway in
    record {
      underway = gone_on whole c.loop-next.line.line c.push.new.line.line c.add-in-Some.new.line.line c.loop-next.tally c.add-in-Some.new.self c.loop-next.node.below c.in-Some.next.below c.in-Some-move_at.played next
          c.loop-next.invariant.underway c.in_ok-push.ensures.line (record { over = a.over; threefold = a.threefold; fifty = a.fifty; repetitions = a.repetitions; quiet = a.quiet }) a.as_before.line;
      still = a.as_before.looked ∙ c.in_ok-push.ensures.none;
    }

pub returns-clause-line : goal.returns-clause-line
returns-clause-line g c =
    (ended (main c.args.tree.now.tree) c.loop-next.line.line c.loop-next.tally c.loop-next.node.below _ c.in_default.is c.child.ensures c.loop-next.invariant.underway).same

pub returns-clause-none : goal.returns-clause-none
returns-clause-none g c = c.loop-next.invariant.still

pub returns-clause-tally : goal.returns-clause-tally
returns-clause-tally g c =
    (ended (main c.args.tree.now.tree) c.loop-next.line.line c.loop-next.tally c.loop-next.node.below _ c.in_default.is c.child.ensures c.loop-next.invariant.underway).tally
