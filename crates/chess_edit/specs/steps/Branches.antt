-- A line that is added to a tree node by node.
--   annotated_all   annotation numbers after those of the node at the cursor
--   with_node       a child with its notes after the others, and the cursor on it
--   HasBranch       one child more, with what is below it, and the cursor in it
--   Begun           so it is, or nothing was added
use Rattle.std.specs.Prelude.{◌≡◌, ◌⊎◌, ℕ, List, [], ◌∷◌, ◌++◌}
use Rattle.chess_types.specs.board.MoveParts.{MoveParts}
use Rattle.chess_tree.specs.Edits.{change_below}
use Rattle.chess_tree.specs.Forest.{Forest, Bare, Node, append, below_at, count}
use Rattle.chess_tree.specs.GameTree.{TreeParts, annotated_here, changed}

abbrev pub annotated_all : List ℕ → TreeParts → TreeParts
annotated_all [] t = t
annotated_all (nag ∷ nags) t = annotated_all nags (annotated_here nag t)

abbrev pub with_node : MoveParts → (nags comment : List ℕ) → TreeParts → TreeParts
with_node m nags comment t =
    record {
      tree = changed (change_below (λ f. append f (Node m nags comment Bare Bare)) t.path) t.tree;
      path = t.path ++ count (below_at t.path t.tree.below) ∷ [];
    }

pub record HasBranch (old new : TreeParts) : Type 0 where
  pub move : MoveParts
  pub nags : List ℕ
  pub comment : List ℕ
  pub below : Forest
  pub rest : List ℕ
  pub path : new.path ≡ old.path ++ count (below_at old.path old.tree.below) ∷ rest
  pub tree : new.tree ≡ changed (change_below (λ f. append f (Node move nags comment below Bare)) old.path) old.tree

abbrev pub Begun : TreeParts → TreeParts → Type 0
Begun old new = (new ≡ old) ⊎ HasBranch old new
