-- Which game trees are well formed.
--   AreSound     each move is legal where it is made, and each comment is one
--   Leads        the path leads to a node
--   IsGameTree   all that is true of each tree
use Rattle.std.specs.Prelude.{◌≡◌, ℕ, ◌<◌, ◌≤◌, true, List, [], ◌∷◌, ⊤}
use Rattle.chess_types.specs.board.Position.{PositionParts, IsWellFormed}
use Rattle.chess_types.specs.board.After.{after}
use Rattle.chess_types.specs.board.Legal.{is_legal}
use Rattle.chess_draws.specs.Pushes.{most_plies}
use Rattle.chess_tree.specs.Forest.{Forest, Bare, Node, below_child, count, height, moves_held, most_moves}
use Rattle.chess_tree.specs.Comments.{IsComment}
use Rattle.chess_tree.specs.GameTree.{TreeParts}

-- from the position where the nodes side by side are moves (FIDE Laws 3.10.1)
abbrev pub AreSound : PositionParts → Forest → Type 0
AreSound p Bare = ⊤
AreSound p (Node m nags comment below next) = (is_legal p m ≡ true) × IsComment comment × AreSound (after p m) below × AreSound p next

-- each place of the path is one that the node there has
abbrev pub Leads : List ℕ → Forest → Type 0
Leads [] f = ⊤
Leads (k ∷ path) f = (k < count f) × Leads path (below_child k f)

-- Both counters of the start are at most 99,999; there are at most 1,000,000 moves, and at most 20,000 on the way to a node.
pub record IsGameTree (t : TreeParts) : Type 0 where
  pub start : IsWellFormed t.tree.start
  pub clock : t.tree.start.clock ≤ 99999
  pub number : t.tree.start.number ≤ 99999
  pub comment : IsComment t.tree.comment
  pub moves : AreSound t.tree.start t.tree.below
  pub deep : height t.tree.below ≤ most_plies
  pub many : moves_held t.tree.below ≤ most_moves
  pub cursor : Leads t.path t.tree.below
