-- The main line of one game among the moves of another (PGN 8.2.5).
--   line_alone   the main continuations alone, with their notes
--   line_joined  that line among nodes side by side: on below the first of them with its move; where there is none, after all of them
use Rattle.std.specs.Prelude.{ℕ, Option, Some, None}
use Rattle.chess_tree.specs.Edits.{inside}
use Rattle.chess_tree.specs.Forest.{Forest, Bare, Node, append}
use Rattle.chess_tree.specs.GameTree.{find}

-- no variation
abbrev pub line_alone : Forest → Forest
line_alone Bare = Bare
line_alone (Node m nags comment below next) = Node m nags comment (line_alone below) Bare

-- below the node at that place, or a node more
abbrev pub below_or_after : Option ℕ → (below : Forest → Forest) → (alone f : Forest) → Forest
below_or_after (Some k) below alone f = inside k below f
below_or_after None below alone f = append f alone

-- the notes of a move that both have are those of the nodes
abbrev pub line_joined : (line f : Forest) → Forest
line_joined Bare f = f
line_joined (Node m nags comment below next) f = below_or_after (find m f) (line_joined below) (line_alone (Node m nags comment below next)) f
