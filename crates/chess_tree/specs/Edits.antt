-- The edits of a forest, at a path: the places, from 0, of the nodes on the way down from the root.
--   change_below  a change of the nodes below the one at the path; at the empty path, of the nodes below the root
--   change_node   a change of the node at the path, or of its place among its siblings
--   without_node       the nodes, but for one
--   promoted      one of them before the others
--   commented     a comment for one of them, instead of its own
--   annotated     one more annotation number for one of them
--   unannotated   no annotation number for one of them
--   parent        the path one node less deep
use Rattle.std.specs.Prelude.{ℕ, zero, suc, List, [], ◌∷◌, ◌++◌}
use Rattle.chess_types.specs.board.MoveParts.{MoveParts}
use Rattle.chess_tree.specs.Forest.{Forest, Bare, Node, append}

-- the nodes below one of them changed
abbrev pub inside : ℕ → (Forest → Forest) → Forest → Forest
inside k change Bare = Bare
inside zero change (Node m nags comment below next) = Node m nags comment (change below) next
inside (suc k) change (Node m nags comment below next) = Node m nags comment below (inside k change next)

-- the nodes below the one at the path changed
abbrev pub change_below : (Forest → Forest) → List ℕ → Forest → Forest
change_below change [] f = change f
change_below change (k ∷ path) f = inside k (change_below change path) f

-- the node at the path changed, by its place among its siblings
abbrev pub change_node : (ℕ → Forest → Forest) → List ℕ → Forest → Forest
change_node change [] f = f
change_node change (k ∷ []) f = change k f
change_node change (k ∷ j ∷ path) f = inside k (change_node change (j ∷ path)) f

-- a node more after the others, with no notes and nothing below it
abbrev pub with_move : MoveParts → Forest → Forest
with_move m f = append f (Node m [] [] Bare Bare)

-- the others, in their order
abbrev pub without_node : ℕ → Forest → Forest
without_node k Bare = Bare
without_node zero (Node m nags comment below next) = next
without_node (suc k) (Node m nags comment below next) = Node m nags comment below (without_node k next)

-- that node before these
abbrev pub in_front : ℕ → Forest → Forest → Forest
in_front k Bare others = others
in_front zero (Node m nags comment below next) others = Node m nags comment below others
in_front (suc k) (Node m nags comment below next) others = in_front k next others

-- that node first, and then the others in their order
abbrev pub promoted : ℕ → Forest → Forest
promoted k f = in_front k f (without_node k f)

-- the node at that place has that comment
abbrev pub commented : List ℕ → ℕ → Forest → Forest
commented text k Bare = Bare
commented text zero (Node m nags comment below next) = Node m nags text below next
commented text (suc k) (Node m nags comment below next) = Node m nags comment below (commented text k next)

-- the node at that place has that annotation number after its others
abbrev pub annotated : ℕ → ℕ → Forest → Forest
annotated n k Bare = Bare
annotated n zero (Node m nags comment below next) = Node m (nags ++ n ∷ []) comment below next
annotated n (suc k) (Node m nags comment below next) = Node m nags comment below (annotated n k next)

-- the node at that place has no annotation numbers
abbrev pub unannotated : ℕ → Forest → Forest
unannotated k Bare = Bare
unannotated zero (Node m nags comment below next) = Node m [] comment below next
unannotated (suc k) (Node m nags comment below next) = Node m nags comment below (unannotated k next)

-- the path to the parent
abbrev pub parent : List ℕ → List ℕ
parent [] = []
parent (k ∷ []) = []
parent (k ∷ j ∷ path) = k ∷ parent (j ∷ path)
