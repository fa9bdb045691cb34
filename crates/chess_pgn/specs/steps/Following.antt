-- The known text of the move at a cursor.
--   Follows   the line to that move is the line to the cursor, if the move is known
use Rattle.std.specs.Prelude.{◌≡◌, ℕ, ◌≤◌, List, length, Option, IfSome}
use Rattle.chess_tree.specs.GameTree.{TreeParts, line_to}
use Rattle.chess_pgn.specs.steps.KnownTexts.{line_at}
use Rattle.chess_pgn.specs.declared.texts.Known.{Known}

abbrev pub Follows : Option ℕ → List Known → TreeParts → Type 0
Follows at ks t = IfSome at (λ place. (line_to t ≡ line_at ks place) × (place ≤ length ks))
