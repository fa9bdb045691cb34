-- A step of the cursor to a child appends the child's move to the line to the cursor.
--   GoesOn   the line to the lower cursor is the line to the upper one with that move appended
use Rattle.std.specs.Prelude.{◌≡◌, ◌<◌, true, length, Some}
use Rattle.chess_types.specs.board.MoveParts.{MoveParts}
use Rattle.chess_types.specs.board.Legal.{is_legal}
use Rattle.chess_types.specs.board.Lines.{extended, last}
use Rattle.chess_draws.specs.Pushes.{most_plies}
use Rattle.chess_tree.specs.GameTree.{TreeParts, here, line_to}

-- The move is that of the node below, legal where it is made, and fewer than 20,000 come before it.
pub record GoesOn (above below : TreeParts) : Type 0 where
  pub move : MoveParts
  pub there : (here below).move ≡ Some move
  pub legal : is_legal (last (line_to above)) move ≡ true
  pub short : length (line_to above).moves < most_plies
  pub line : line_to below ≡ extended (line_to above) move
