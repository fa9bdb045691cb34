-- What the nodes say of one another.
--   IsLinked   a node's move, parent, place and children
--   Linked     nodes side by side, the first at a place of their parent's children, and all below them say what the grove says
--   Unplaced   the same, but for the places of the nodes side by side
--   Chained    freed nodes: each one's parent is the next of them, or 0
use Rattle.std.specs.Prelude.{◌≡◌, ℕ, suc, List, ⊤}
use Rattle.chess_types.specs.board.MoveParts.{MoveParts}
use Rattle.chess_tree.specs.steps.Entries.{Entry}
use Rattle.chess_tree.specs.steps.Grove.{Grove, Empty, Tree, first_of, numbers}

-- a node's move, parent and children
pub record IsOwned (P : ℕ → ℕ → Type 0) (n : Entry) (parent : ℕ) (move : MoveParts) (children : List ℕ) : Type 0 where
  pub move_is : n.played ≡ move
  pub parent_is : P parent n.parent
  pub children_is : n.children ≡ children

module _ (P : ℕ → ℕ → Type 0) where
  -- P: what is asked of the parent and of the place
  pub record IsLinked (n : Entry) (parent place : ℕ) (move : MoveParts) (children : List ℕ) : Type 0 where
    pub owned : IsOwned P n parent move children
    pub place_is : P place n.place

  -- each node's links, and those below it and after it
  abbrev pub Linked : (ℕ → Entry) → ℕ → ℕ → Grove → Type 0
  Linked entry_at p k Empty = ⊤
  Linked entry_at p k (Tree i m below next) = IsLinked (entry_at i) p k m (numbers below) × Linked entry_at i 0 below × Linked entry_at p (suc k) next

  -- whatever their places are
  abbrev pub Unplaced : (ℕ → Entry) → ℕ → Grove → Type 0
  Unplaced entry_at p Empty = ⊤
  Unplaced entry_at p (Tree i m below next) = IsOwned P (entry_at i) p m (numbers below) × Linked entry_at i 0 below × Unplaced entry_at p next

-- of freed nodes nothing is asked
abbrev pub Any : ℕ → ℕ → Type 0
Any p q = ⊤

-- one after the other, with what is below them
abbrev pub Chained : (ℕ → Entry) → Grove → Type 0
Chained entry_at Empty = ⊤
Chained entry_at (Tree i m below next) = ((entry_at i).parent ≡ first_of next) × ((entry_at i).children ≡ numbers below) × Linked Any entry_at i 0 below × Chained entry_at next
