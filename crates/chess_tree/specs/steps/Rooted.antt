-- What contracts see of the arena: the root with all that is below it, and the path to the cursor.
--   Noted          what is noted at a node
--   Held           a node as it is kept; the root has a move too, which isn't shown
--   Rooted         the root, and the path
--   coded_noted, coded_held, coded_rooted      as tuples
--   leaf           a node with no notes, and nothing below it
--   with_below     a node with other nodes below it
--   commented_at   another comment for the node at a path
--   shown          a node with its move in sight; root_shown, the root without
--   edited_root, commented_root      after an edit at the cursor, and with another comment there
--   parts_of       the tree and the path that they stand for
use Rattle.std.specs.Prelude.{ℕ, List, [], ◌∷◌, None, Some, refl}
use Rattle.std.specs.Coded.{Coded, code_by, coded×, coded_ℕ, coded_list}
use Rattle.chess_types.specs.board.MoveParts.{MoveParts}
use Rattle.chess_types.specs.steps.LineCode.{coded_move}
use Rattle.chess_types.specs.board.Position.{PositionParts}
use Rattle.chess_tree.specs.Forest.{Forest, Bare, NodeParts}
use Rattle.chess_tree.specs.steps.ForestCode.{coded_forest}
use Rattle.chess_tree.specs.Edits.{change_node, commented}
use Rattle.chess_tree.specs.GameTree.{Edit, TreeParts}

-- the annotation numbers and the comment of a node
pub record Noted : Type 0 where
  pub nags : List ℕ
  pub comment : List ℕ

-- as a tuple, by which a proof distinguishes them
abbrev pub coded_noted : Coded Noted
coded_noted = code_by (List ℕ × List ℕ) (coded× (coded_list coded_ℕ) (coded_list coded_ℕ)) (λ n. (n.nags, n.comment)) (λ p. record { nags = p.0; comment = p.1 }) (λ _. refl)

-- nothing noted
abbrev pub no_notes : Noted
no_notes = record { nags = []; comment = [] }

-- a node as it is kept
pub record Held : Type 0 where
  pub move : MoveParts
  pub nags : List ℕ
  pub comment : List ℕ
  pub below : Forest

-- as a tuple
abbrev pub coded_held : Coded Held
coded_held =
    code_by (MoveParts × (List ℕ × (List ℕ × Forest))) (coded× coded_move (coded× (coded_list coded_ℕ) (coded× (coded_list coded_ℕ) coded_forest)))
    (λ n. (n.move, (n.nags, (n.comment, n.below))))
    (λ p. record { move = p.0; nags = p.1.0; comment = p.1.1.0; below = p.1.1.1 })
    (λ _. refl)

-- a node with no notes, and nothing below it
abbrev pub leaf : MoveParts → Held
leaf m = record { move = m; nags = []; comment = []; below = Bare }

-- the node with another forest below it
abbrev pub with_below : (Forest → Forest) → Held → Held
with_below change n = record { move = n.move; nags = n.nags; comment = n.comment; below = change n.below }

-- a comment for the node at a path, the root's at the empty one
abbrev pub commented_at : List ℕ → List ℕ → Held → Held
commented_at text [] n = record { move = n.move; nags = n.nags; comment = text; below = n.below }
commented_at text (k ∷ path) n = with_below (change_node (commented text) (k ∷ path)) n

-- the root with all that is below it, and the way to the cursor
pub record Rooted : Type 0 where
  pub root : Held
  pub path : List ℕ

-- as a tuple
abbrev pub coded_rooted : Coded Rooted
coded_rooted =
    code_by (Held × List ℕ) (coded× coded_held (coded_list coded_ℕ)) (λ z. (z.root, z.path)) (λ p. record { root = p.0; path = p.1 }) (λ _. refl)

-- the tree and the path
abbrev pub parts_of : PositionParts → Rooted → TreeParts
parts_of start nodes = record { tree = record { start = start; comment = nodes.root.comment; below = nodes.root.below }; path = nodes.path }

-- the node with its move in sight
abbrev pub shown : Held → NodeParts
shown n = record { move = Some n.move; nags = n.nags; comment = n.comment; below = n.below }

-- the root has no move and no annotation numbers
abbrev pub root_shown : Held → NodeParts
root_shown n = record { move = None; nags = []; comment = n.comment; below = n.below }

-- ---- edits at the cursor

-- the cursor is elsewhere
abbrev pub path_root : List ℕ → Rooted → Rooted
path_root path z = record { root = z.root; path = path }

-- the root and the cursor after an edit
abbrev pub edited_root : Edit → Rooted → Rooted
edited_root edit z = record { root = with_below (edit.below z.path) z.root; path = edit.path z.path z.root.below }

-- that text instead of the node's comment
abbrev pub commented_root : List ℕ → Rooted → Rooted
commented_root text z = record { root = commented_at text z.path z.root; path = z.path }
