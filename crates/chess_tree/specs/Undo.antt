-- Taking a played move back, with what `play` answered: whether it added a node.
--   is_bare_node  nothing hangs on a node: no annotation number, no comment and no node below it
--   undone      the cursor on the parent; the node that it leaves taken out where it was added and is bare
--   UndoesPlay, UndoesAdd     the laws: after the move all is as it was before it
--   LosesOneAtMost            whatever came between: at most that one node goes
use Rattle.std.specs.Prelude.{◌≡◌, ◌⊎◌, ◌+◌, Bool, true, ◌&&◌, ◌==◌, if◌then◌else◌, length}
use Rattle.chess_types.specs.board.MoveParts.{MoveParts}
use Rattle.chess_tree.specs.Forest.{NodeParts, count, moves_held}
use Rattle.chess_tree.specs.Edits.{parent}
use Rattle.chess_tree.specs.GameTree.{TreeParts, added, at_path, deleted, here}
use Rattle.chess_tree.specs.Plays.{is_new, played}
use Rattle.chess_tree.specs.WellFormed.{Leads}

-- no annotation number, no comment and no node below it
abbrev pub is_bare_node : NodeParts → Bool
is_bare_node n = (length n.nags == 0) && ((length n.comment == 0) && (count n.below == 0))

-- to the parent; a bare node that was added is taken out
abbrev pub undone : Bool → TreeParts → TreeParts
undone was_added t = if was_added && is_bare_node (here t) then deleted t else at_path (parent t.path) t

-- a move is played and undone, with whether a node was added for it: the tree and the cursor, and so the line to it, are as they were before
abbrev pub UndoesPlay : Type 0
UndoesPlay = (t : TreeParts) (m : MoveParts) → Leads t.path t.tree.below → undone (is_new t m) (played m t) ≡ t

-- the same of a move that is added whether or not a child has it
abbrev pub UndoesAdd : Type 0
UndoesAdd = (t : TreeParts) (m : MoveParts) → Leads t.path t.tree.below → undone true (added m t) ≡ t

-- the tree stays as it is; or the node at the cursor was added and is bare, and the tree has that one node less
abbrev pub LosesOneAtMost : Type 0
LosesOneAtMost =
    (was_added : Bool) (t : TreeParts) → Leads t.path t.tree.below
    → ((undone was_added t).tree ≡ t.tree)
    ⊎ ((was_added ≡ true) × (is_bare_node (here t) ≡ true) × (moves_held t.tree.below ≡ moves_held (undone was_added t).tree.below + 1))
