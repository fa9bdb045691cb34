-- What the calls that move the cursor, and those that edit at it, return and leave. A tree and an analysis have the same.
--   StepsDown     to the child at a place
--   StepsUp       to the parent, as a tree that may have changed below it
--   GoesTo        to the node at a path
--   GoesToEnd     along the main continuations to a node without children
--   Promotes      the node is before its siblings
--   Annotates     one more annotation number
--   Unannotates   no annotation number
--   Comments      the words of a text as the comment
use Rattle.std.specs.Prelude.{◌≡◌, ℕ, ◌<◌, ◌≤◌, ◌++◌, ◌∷◌, [], true, false, length, List, Result, Ok, Err, IfErr, MatchResult, OnErr, OnOk}
use Rattle.chess_draws.specs.Pushes.{most_plies}
use Rattle.chess_tree.specs.declared.fault.TreeFault.{TreeFault}
use Rattle.chess_tree.specs.declared.fault.TreeFault.TheVariants.{AtRoot, BadComment, Memory, NoSuch}
use Rattle.chess_tree.specs.Comments.{has_brace, normalised}
use Rattle.chess_tree.specs.Forest.{count}
use Rattle.chess_tree.specs.GameTree.{TreeParts, annotated_here, at_path, commented_here, has, line_along, line_to, main_line, moves_along, nodes_here, promoted_here, unannotated_here}
use Rattle.chess_tree.specs.CursorLine.{GoesOn}

-- to the child at that place, from 0, where there is one
pub record StepsDown (place : ℕ) (old : TreeParts) (result : Result (Unit {0}) TreeFault) (new : TreeParts) : Type 0 where
  pub ok : OnOk result (new ≡ at_path (old.path ++ place ∷ []) old)
  pub line : OnOk result (GoesOn old new)
  pub err : OnErr result (new ≡ old)
  pub no_such : MatchResult result (λ _. place < count (nodes_here old)) (λ fault. (fault ≡ NoSuch) × (count (nodes_here old) ≤ place))

-- a change that leaves the cursor on the parent, from anywhere but the root
pub record StepsUp (change : TreeParts → TreeParts) (old : TreeParts) (result : Result (Unit {0}) TreeFault) (new : TreeParts) : Type 0 where
  pub ok : OnOk result (new ≡ change old)
  pub line : OnOk result (GoesOn new old)
  pub err : OnErr result (new ≡ old)
  pub at_root : MatchResult result (λ _. 0 < length old.path) (λ fault. (fault ≡ AtRoot) × (old.path ≡ []))

-- to the node at that path from the root, where there is one
pub record GoesTo (path : List ℕ) (old : TreeParts) (result : Result (Unit {0}) TreeFault) (new : TreeParts) : Type 0 where
  pub ok : OnOk result (new ≡ at_path path old)
  pub line : OnOk result (line_to new ≡ line_along path old.tree)
  pub err : OnErr result (new ≡ old)
  pub no_such : MatchResult result (λ _. has path old.tree.below ≡ true) (λ fault. (fault ≡ NoSuch) × (has path old.tree.below ≡ false))
  pub short : OnOk result (length path ≤ most_plies)

-- along the main continuations to a node without children
pub record GoesToEnd (old new : TreeParts) : Type 0 where
  pub path : new ≡ at_path (old.path ++ main_line (nodes_here old)) old
  pub line : (line_to new).moves ≡ (line_to old).moves ++ moves_along (main_line (nodes_here old)) (nodes_here old)

-- the node is before its siblings, unless it is the root
pub record Promotes (old : TreeParts) (result : Result (Unit {0}) TreeFault) (new : TreeParts) : Type 0 where
  pub ok : OnOk result (new ≡ promoted_here old)
  pub line : line_to new ≡ line_to old
  pub err : OnErr result (new ≡ old)
  pub at_root : MatchResult result (λ _. 0 < length old.path) (λ fault. (fault ≡ AtRoot) × (old.path ≡ []))

-- the node has that annotation number after its others, unless it is the root
pub record Annotates (nag : ℕ) (old : TreeParts) (result : Result (Unit {0}) TreeFault) (new : TreeParts) : Type 0 where
  pub ok : OnOk result (new ≡ annotated_here nag old)
  pub line : line_to new ≡ line_to old
  pub err : OnErr result (new ≡ old)
  pub at_root : old.path ≡ [] → result ≡ Err AtRoot
  pub memory : 0 < length old.path → IfErr result (λ fault. fault ≡ Memory)

-- the node has no annotation numbers, unless it is the root
pub record Unannotates (old : TreeParts) (result : Result (Unit {0}) TreeFault) (new : TreeParts) : Type 0 where
  pub ok : OnOk result (new ≡ unannotated_here old)
  pub line : line_to new ≡ line_to old
  pub err : OnErr result (new ≡ old)
  pub at_root : MatchResult result (λ _. 0 < length old.path) (λ fault. (fault ≡ AtRoot) × (old.path ≡ []))

-- the node has the words of that text as its comment, unless a right brace is in it
pub record Comments (text : List ℕ) (old : TreeParts) (result : Result (Unit {0}) TreeFault) (new : TreeParts) : Type 0 where
  pub ok : OnOk result (new ≡ commented_here (normalised text) old)
  pub line : line_to new ≡ line_to old
  pub err : OnErr result (new ≡ old)
  pub bad_comment : has_brace text ≡ true → result ≡ Err BadComment
  pub memory : has_brace text ≡ false → IfErr result (λ fault. fault ≡ Memory)
  pub no_words : has_brace text ≡ false → normalised text ≡ [] → result ≡ Ok tt
