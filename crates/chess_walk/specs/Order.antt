-- The nodes of a game tree one after another, in the order in which a PGN text has their moves (PGN 8.2.5).
--   node_along   the node at a path from another
--   Visit        a node, as a walk comes to it
--   of_main      the moves of a main line alone
--   visits       moves side by side and all that follows them: the first, the others as variations, and what follows the first
--   resumed      the move that is to be made again after its variations
--   GivesNext    what one step of a walk gives
use Rattle.std.specs.Prelude.{◌≡◌, ℕ, ◌+◌, Bool, true, false, List, [], ◌∷◌, ◌++◌, Option, Some, None, Result, Ok, Err}
use Rattle.chess_types.specs.board.MoveParts.{MoveParts}
use Rattle.chess_tree.specs.Forest.{Forest, Bare, Node, NodeParts, child}

-- on from a child, if there is one
abbrev pub from_child : (NodeParts → Option NodeParts) → Option NodeParts → Option NodeParts
from_child on None = None
from_child on (Some node) = on node

-- by its places from 0, if each is one that the node there has
abbrev pub node_along : List ℕ → NodeParts → Option NodeParts
node_along [] node = Some node
node_along (k ∷ path) node = from_child (node_along path) (child k node.below)

-- How many moves lead to the node from where the walk began, its own included; in how many variations it is, one within another; whether
-- a variation begins with it; where it goes on after variations of the move before it, that move; and the node.
pub record Visit : Type 0 where
  pub depth : ℕ
  pub level : ℕ
  pub begins : Bool
  pub again : Option MoveParts
  pub node : NodeParts

-- the main line alone: the first of the moves side by side, and so on below it
abbrev pub of_main : (depth : ℕ) → Forest → List Visit
of_main depth Bare = []
of_main depth (Node m nags comment below next) =
    record { depth = depth; level = 0; begins = false; again = None; node = record { move = Some m; nags = nags; comment = comment; below = below } }
    ∷ of_main (depth + 1) below

-- the move, where variations of it come before what follows it
abbrev pub resumed : MoveParts → Forest → Option MoveParts
resumed m Bare = None
resumed m (Node n nags comment below next) = Some m

-- Moves side by side. As a line: the first, each of the others as a variation, and what follows the first. As variations: each with all that follows
-- it, before the next.
abbrev pub visits : (as_variations : Bool) → (depth level : ℕ) → Option MoveParts → Forest → List Visit
visits as_variations depth level again Bare = []
visits false depth level again (Node m nags comment below next) =
    record { depth = depth; level = level; begins = false; again = again; node = record { move = Some m; nags = nags; comment = comment; below = below } }
    ∷ (visits true depth (level + 1) None next ++ visits false (depth + 1) level (resumed m next) below)
visits true depth level again (Node m nags comment below next) =
    record { depth = depth; level = level; begins = true; again = None; node = record { move = Some m; nags = nags; comment = comment; below = below } }
    ∷ (visits false (depth + 1) level None below ++ visits true depth level None next)

-- The first of the nodes that are left, or none where none is. Where there is no memory to go on with, the walk is over.
abbrev pub GivesNext : {V E : Type 0} → (V → Visit) → List Visit → Option (Result V E) → List Visit → Type 0
GivesNext seen left None rest = (left ≡ []) × (rest ≡ [])
GivesNext seen left (Some (Ok visit)) rest = left ≡ seen visit ∷ rest
GivesNext seen left (Some (Err fault)) rest = rest ≡ []
