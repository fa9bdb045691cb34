use Rattle.std.proofs.Common.{◌≡◌}
use Rattle.chess_tree.specs.Forest.{height}
use Rattle.chess_report.specs.MainLine.{main}
use Rattle.chess_report.proofs.UnderwayLemmas.{Underway}
use Rattle.chess_report.proofs.report.follow.Given as goal

abbrev pub invariant-loop-next : goal.invariant-loop-next
invariant-loop-next g l =
    record {
      underway : Underway (main l.fn.tree.tree) l.line.line l.tally l.node.below;
      still : l.line.looked ≡ 0;
    }

abbrev pub decreases-loop-next : goal.decreases-loop-next
decreases-loop-next g l = height l.node.below
