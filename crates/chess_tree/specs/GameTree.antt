-- A game tree with a cursor, as contracts see it, and its edits.
--   GameTree      the starting position, the comment before the first move, and the moves
--   TreeParts     a tree and the path to the cursor
--   root_node     the root by itself; node_of, the node at a path
--   here          the node at the cursor; nodes_here, the nodes below it
--   moves_along   the moves on the way to a node
--   line_along    the line to a node; line_to, to the cursor
--   has           whether there is a node at a path
--   find          the place of the first child with a move
--   main_line     the path along the main continuations
--   at_path       the same tree, with the cursor elsewhere
--   adding, deleting, promoting, annotating     the edits; edited, the tree and the cursor after one
--   added, deleted, promoted_here, annotated_here, commented_here     the same by name, and the comment
use Rattle.std.specs.Prelude.{ℕ, zero, suc, Bool, true, nat_lt, ◌&&◌, ◌==◌, if◌then◌else◌, List, [], ◌∷◌, ◌++◌, Option, None, Some, unwrap_or, option_map}
use Rattle.std.specs.Option.{option_to_list, option_eq}
use Rattle.chess_types.specs.board.Men.{same_kind}
use Rattle.chess_types.specs.board.MoveParts.{MoveParts}
use Rattle.chess_types.specs.board.Position.{PositionParts}
use Rattle.chess_types.specs.board.Lines.{Line}
use Rattle.chess_tree.specs.Forest.{Forest, Bare, Node, NodeParts, below_at, below_child, child, count}
use Rattle.chess_tree.specs.Edits.{annotated, change_below, change_node, commented, parent, promoted, with_move, without_node, unannotated}

-- the position in which it begins, its comment and its moves
pub record GameTree : Type 0 where
  pub start : PositionParts
  pub comment : List ℕ
  pub below : Forest

-- a game tree and the path to the cursor
pub record TreeParts : Type 0 where
  pub tree : GameTree
  pub path : List ℕ

-- the root has no move and no annotation numbers
abbrev pub root_node : GameTree → NodeParts
root_node tree = record { move = None; nags = []; comment = tree.comment; below = tree.below }

-- the node at a path from this one
abbrev pub node_of : List ℕ → NodeParts → NodeParts
node_of [] n = n
node_of (k ∷ path) n = node_of path (unwrap_or (child k n.below) n)

-- the node at the cursor
abbrev pub here : TreeParts → NodeParts
here t = node_of t.path (root_node t.tree)

-- the nodes below the cursor
abbrev pub nodes_here : TreeParts → Forest
nodes_here t = below_at t.path t.tree.below

-- the move of the node at that place
abbrev pub move_of : ℕ → Forest → Option MoveParts
move_of k Bare = None
move_of zero (Node m nags comment below next) = Some m
move_of (suc k) (Node m nags comment below next) = move_of k next

-- the moves on the way to the node at the path
abbrev pub moves_along : List ℕ → Forest → List MoveParts
moves_along [] f = []
moves_along (k ∷ path) f = option_to_list (move_of k f) ++ moves_along path (below_child k f)

-- the line from the start to the node at a path
abbrev pub line_along : List ℕ → GameTree → Line
line_along path tree = record { start = tree.start; moves = moves_along path tree.below }

-- the line from the start to the cursor
abbrev pub line_to : TreeParts → Line
line_to t = line_along t.path t.tree

-- each place of the path is one that the node there has
abbrev pub has : List ℕ → Forest → Bool
has [] f = true
has (k ∷ path) f = nat_lt k (count f) && has path (below_child k f)

-- ---- edits

-- the cursor is elsewhere
abbrev pub at_path : List ℕ → TreeParts → TreeParts
at_path path t = record { tree = t.tree; path = path }

-- the moves are others
abbrev pub changed : (Forest → Forest) → GameTree → GameTree
changed change tree = record { start = tree.start; comment = tree.comment; below = change tree.below }

-- what an edit at the cursor's path makes of the moves, and of the path
pub record Edit : Type 0 where
  pub below : List ℕ → Forest → Forest
  pub path : List ℕ → Forest → List ℕ

-- a child with that move after the others, and the cursor on it
abbrev pub adding : MoveParts → Edit
adding m = record { below = change_below (with_move m); path = λ path f. path ++ count (below_at path f) ∷ [] }

-- the node and all below it taken out, and the cursor on its parent
abbrev pub deleting : Edit
deleting = record { below = change_node without_node; path = λ path f. parent path }

-- the node before its siblings, and the cursor still on it
abbrev pub promoting : Edit
promoting = record { below = change_node promoted; path = λ path f. parent path ++ 0 ∷ [] }

-- that annotation number after those of the node
abbrev pub annotating : ℕ → Edit
annotating nag = record { below = change_node (annotated nag); path = λ path f. path }

-- no annotation numbers of the node
abbrev pub unannotating : Edit
unannotating = record { below = change_node unannotated; path = λ path f. path }

-- the tree and the cursor after an edit
abbrev pub edited : Edit → TreeParts → TreeParts
edited edit t = record { tree = changed (edit.below t.path) t.tree; path = edit.path t.path t.tree.below }

-- the move added
abbrev pub added : MoveParts → TreeParts → TreeParts
added m = edited (adding m)

-- the node taken out
abbrev pub deleted : TreeParts → TreeParts
deleted = edited deleting

-- the node promoted
abbrev pub promoted_here : TreeParts → TreeParts
promoted_here = edited promoting

-- the node annotated
abbrev pub annotated_here : ℕ → TreeParts → TreeParts
annotated_here nag = edited (annotating nag)

-- the node without its annotation numbers
abbrev pub unannotated_here : TreeParts → TreeParts
unannotated_here = edited unannotating

-- that text instead of the comment of the node at a path, or of the root
abbrev pub commented_tree : List ℕ → List ℕ → GameTree → GameTree
commented_tree text [] tree = record { start = tree.start; comment = text; below = tree.below }
commented_tree text (k ∷ path) tree = changed (change_node (commented text) (k ∷ path)) tree

-- that text instead of the comment at the cursor
abbrev pub commented_here : List ℕ → TreeParts → TreeParts
commented_here text t = record { tree = commented_tree text t.path t.tree; path = t.path }

-- ---- the cursor

-- the same move
abbrev pub is_move : MoveParts → MoveParts → Bool
is_move m n = (m.from == n.from) && ((m.to == n.to) && option_eq same_kind m.promo n.promo)

-- the place of the first one with that move
abbrev pub find : MoveParts → Forest → Option ℕ
find m Bare = None
find m (Node n nags comment below next) = if is_move n m then Some 0 else option_map (λ k. suc k) (find m next)

-- the path along the main continuations, to the end
abbrev pub main_line : Forest → List ℕ
main_line Bare = []
main_line (Node m nags comment below next) = 0 ∷ main_line below
