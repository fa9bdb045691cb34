-- A board that begins with a game's tree.
--   from_root   a tree, and the cursor at its root
use Rattle.std.specs.Prelude.{[]}
use Rattle.chess_tree.specs.GameTree.{GameTree, TreeParts}

-- the cursor at the root
abbrev pub from_root : GameTree → TreeParts
from_root tree = record { tree = tree; path = [] }
