-- What a look at the children of a node relies on.
--   Owner       the nodes below that one
--   IsOwner     there are such nodes
--   AreThere    the numbers of its children are those of nodes
--   HasChild    it has a child at that place
--   IsFind      the first of them with a move
use Rattle.std.specs.Prelude.{◌≡◌, ℕ, ◌<◌, ◌≤◌, List, length, Option}
use Rattle.std.proofs.Common.{get_or}
use Rattle.chess_types.specs.board.MoveParts.{MoveParts}
use Rattle.chess_tree.specs.GameTree.{find}
use Rattle.chess_tree.specs.steps.Rooted.{Noted}
use Rattle.chess_tree.specs.steps.Entries.{Entry, entry_at}
use Rattle.chess_tree.specs.steps.Grove.{Grove, numbers, plain, size, times}
use Rattle.chess_tree.specs.steps.Linked.{Linked}
use Rattle.chess_tree.specs.steps.Laid.{Same}

-- the nodes below one of them
pub record Owner (nodes : List Entry) (at : ℕ) (below : Grove) : Type 0 where
  pub own : (entry_at nodes at).children ≡ numbers below
  pub linked : Linked Same (entry_at nodes) at 0 below
  pub once : (j : ℕ) → times j below ≤ 1
  pub no_root : times 0 below ≡ 0
  pub range : (j : ℕ) → 0 < times j below → j < length nodes
  pub few : size below < length nodes
  pub there : at < length nodes

-- there are nodes below it, or none
abbrev pub IsOwner : List Entry → ℕ → Type 0
IsOwner nodes at = (below : Grove) × Owner nodes at below

-- each of its children is a node
abbrev pub AreThere : List Entry → ℕ → Type 0
AreThere nodes at = (k : ℕ) → k < length (entry_at nodes at).children → get_or (entry_at nodes at).children k 0 < length nodes

-- it is a node, each of its children is one, and there is one at the place
pub record HasChild (nodes : List Entry) (at place : ℕ) : Type 0 where
  pub node : at < length nodes
  pub child : place < length (entry_at nodes at).children
  pub children : AreThere nodes at
  pub few : length (entry_at nodes at).children ≤ 1000001

-- the place of the first child with that move
abbrev pub IsFind : List Entry → ℕ → MoveParts → Option ℕ → Type 0
IsFind nodes at m place = (below : Grove) → Owner nodes at below → (noted : ℕ → Noted) → place ≡ find m (plain noted below)
