-- Moves with notes hanging below one another: the moves and variations of a game (PGN 8.2.5).
--   Forest      nodes side by side, each with the nodes below it; the first is the main continuation
--   NodeParts   a node by itself: the move that leads to it, unless it is the root; its notes; what is below it
--   append      the nodes of two forests, side by side
--   count       how many nodes are side by side
--   child       one of them, by its place from 0
--   moves_held  how many nodes there are
--   most_moves  the most nodes of a tree
--   height      how many nodes the longest way down has
use Rattle.std.specs.Prelude.{ℕ, zero, suc, ◌+◌, max, List, [], ◌∷◌, Option, Some, None}
use Rattle.chess_types.specs.board.MoveParts.{MoveParts}

-- no node, or a node (its move, annotation numbers, comment and the nodes below it) and the nodes after it
pub data Forest : Type 0 where
  Bare : Forest
  Node : (move : MoveParts) → (nags comment : List ℕ) → (below next : Forest) → Forest

-- a node by itself; the root has no move
pub record NodeParts : Type 0 where
  pub move : Option MoveParts
  pub nags : List ℕ
  pub comment : List ℕ
  pub below : Forest

-- the nodes of one, and after them those of the other
abbrev pub append : Forest → Forest → Forest
append Bare f = f
append (Node m nags comment below next) f = Node m nags comment below (append next f)

-- how many nodes are side by side
abbrev pub count : Forest → ℕ
count Bare = 0
count (Node m nags comment below next) = suc (count next)

-- the node at that place
abbrev pub child : ℕ → Forest → Option NodeParts
child k Bare = None
child zero (Node m nags comment below next) = Some (record { move = Some m; nags = nags; comment = comment; below = below })
child (suc k) (Node m nags comment below next) = child k next

-- how many moves there are in all
abbrev pub moves_held : Forest → ℕ
moves_held Bare = 0
moves_held (Node m nags comment below next) = 1 + moves_held below + moves_held next

-- the most moves of a tree
abbrev pub most_moves : ℕ
most_moves = 1000000

-- the most moves on the way to a node
abbrev pub height : Forest → ℕ
height Bare = 0
height (Node m nags comment below next) = max (1 + height below) (height next)

-- the nodes below one of them
abbrev pub below_child : ℕ → Forest → Forest
below_child k Bare = Bare
below_child zero (Node m nags comment below next) = below
below_child (suc k) (Node m nags comment below next) = below_child k next

-- the nodes below the one at a path
abbrev pub below_at : List ℕ → Forest → Forest
below_at [] f = f
below_at (k ∷ path) f = below_at path (below_child k f)
