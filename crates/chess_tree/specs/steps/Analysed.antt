-- A tree and the line beside it, as an `Analysis` keeps them.
--   IsAnalysed   the line is that to the cursor, no move of it is only looked at, and it has room for the way down to each node
use Rattle.std.specs.Prelude.{◌≡◌, ◌≤◌}
use Rattle.chess_draws.specs.LineParts.{LineParts}
use Rattle.chess_tree.specs.Forest.{height}
use Rattle.chess_tree.specs.GameTree.{TreeParts, line_to}
use Rattle.chess_tree.specs.WellFormed.{IsGameTree}

-- the line goes from the root to the cursor
pub record IsAnalysed (t : TreeParts) (l : LineParts) : Type 0 where
  pub game : IsGameTree t
  pub follows : l.line ≡ line_to t
  pub still : l.looked ≡ 0
  pub room : height t.tree.below ≤ l.room
