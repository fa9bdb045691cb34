use Rattle.std.proofs.Common.{◌≡◌}
use Rattle.chess_tree.specs.Forest.{height}
use Rattle.chess_report.specs.MainLine.{main}
use Rattle.chess_positions.specs.Rows.{ply_text}
use Rattle.chess_positions.proofs.RowLemmas.{Underway}
use Rattle.chess_positions.proofs.plies.follow.Given as goal

-- the rows of the plies so far
abbrev pub invariant-loop-next : goal.invariant-loop-next
invariant-loop-next g l = record {
  underway : Underway (ply_text l.layout.format l.layout.columns.items l.of.number l.of.outcome) (main l.fn.tree.tree) l.line.line l.fn.out.items l.out.items l.node.below;
  still : l.line.looked ≡ 0;
}

abbrev pub decreases-loop-next : goal.decreases-loop-next
decreases-loop-next g l = height l.node.below
