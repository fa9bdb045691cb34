-- What the arena's steps write.
--   placed     nodes have places one after the other, from one on
--   detached   a child is out of its parent's children
--   lifted     a child is before its siblings
use Rattle.std.specs.Prelude.{ℕ, suc, ◌+◌, List, [], ◌∷◌, drop, remove, take}
use Rattle.chess_tree.specs.steps.Entries.{Entry, entry_at, moved_first, with_children, with_place}

-- those nodes have places one after the other
abbrev pub placed : ℕ → List ℕ → List Entry → List Entry
placed k [] nodes = nodes
placed k (i ∷ is) nodes = placed (suc k) is (with_place i k nodes)

-- the child at a place is out of the node's children, and those after it have moved up
abbrev pub detached : ℕ → ℕ → List Entry → List Entry
detached at k nodes =
    placed k (drop k (remove (entry_at nodes at).children k)) (with_children at (remove (entry_at nodes at).children k) nodes)

-- the child at a place is the first of the node's children, and those that were before it have moved down
abbrev pub lifted : ℕ → ℕ → List Entry → List Entry
lifted at k nodes =
    placed 0 (take (k + 1) (moved_first k (entry_at nodes at).children)) (with_children at (moved_first k (entry_at nodes at).children) nodes)
