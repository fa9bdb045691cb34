-- A node of the list, to be looked at.
--   node_seen   its move and annotation numbers, unless it is the root; its comment, and the nodes below it
--   IsViewed    it is the root or one of the game
--   side_seen   its children from a place on, side by side
use Rattle.std.specs.Prelude.{◌≡◌, ℕ, ◌≤◌, ◌==◌, if◌then◌else◌, List, [], length, Some, None, drop}
use Rattle.chess_tree.specs.Forest.{Forest, NodeParts}
use Rattle.chess_tree.specs.steps.Rooted.{Noted}
use Rattle.chess_tree.specs.steps.Entries.{Entry, entry_at}
use Rattle.chess_tree.specs.steps.Grove.{Grove, Empty, number_at, plain, Ways}
use Rattle.chess_tree.specs.steps.Laid.{grove_from, Laid}

-- a node by itself
abbrev pub node_seen : List Entry → (ℕ → Noted) → ℕ → NodeParts
node_seen nodes noted i =
    record {
      move = if i == 0 then None else Some (entry_at nodes i).played;
      nags = if i == 0 then [] else (noted i).nags;
      comment = (noted i).comment;
      below = plain noted (grove_from (length nodes) (entry_at nodes) (entry_at nodes i).children);
    }

-- the root or one of the game
pub record IsViewed (nodes : List Entry) (i : ℕ) : Type 0 where
  pub free : ℕ
  pub game : Grove
  pub freed : Grove
  pub path : List ℕ
  pub laid : Laid nodes free game freed Empty
  pub ways : Ways path game
  pub is : i ≡ number_at path 0 game
  pub few : length nodes ≤ 1000001

-- the children from a place on
abbrev pub side_seen : List Entry → (ℕ → Noted) → ℕ → ℕ → Forest
side_seen nodes noted i place = plain noted (grove_from (length nodes) (entry_at nodes) (drop place (entry_at nodes i).children))
