-- A forest whose nodes have numbers: what the vector of nodes stands for.
--   Grove      a forest, with each node's number in the vector
--   plain      the forest without the numbers, with what is noted at each
--   times      how often a number is used
--   size, wide      how many nodes; how many side by side
--   first_of, numbers      the first of those side by side, or 0; the numbers of them all
--   join       those of two groves, side by side
--   node_number, grove_move, under  one of those side by side: its number, its move and what is below it
--   those_before, those_after      the others
--   within     another grove below one of them
--   number_at, trail_at, under_at, change_at, Ways      the same at a path, as of a forest
use Rattle.std.specs.Prelude.{ℕ, zero, suc, ◌+◌, ◌<◌, ◌==◌, if◌then◌else◌, List, [], ◌∷◌, None, ⊤}
use Rattle.chess_types.specs.board.MoveParts.{MoveParts}
use Rattle.chess_tree.specs.Forest.{Forest, Bare, Node}
use Rattle.chess_tree.specs.steps.Rooted.{Noted}

-- no node, or a node (its number, its move and the nodes below it) and the nodes after it
pub data Grove : Type 0 where
  Empty : Grove
  Tree : (number : ℕ) → (move : MoveParts) → (below next : Grove) → Grove

-- the forest without the numbers: `noted` has each node's notes
abbrev pub plain : (ℕ → Noted) → Grove → Forest
plain noted Empty = Bare
plain noted (Tree i m below next) = Node m (noted i).nags (noted i).comment (plain noted below) (plain noted next)

-- once, where the numbers are the same
unfoldable pub tally : ℕ → ℕ → ℕ
tally j i = if j == i then 1 else 0

-- how often a number is used
abbrev pub times : ℕ → Grove → ℕ
times j Empty = 0
times j (Tree i m below next) = tally j i + times j below + times j next

-- how many nodes
abbrev pub size : Grove → ℕ
size Empty = 0
size (Tree i m below next) = 1 + size below + size next

-- how many side by side
abbrev pub wide : Grove → ℕ
wide Empty = 0
wide (Tree i m below next) = suc (wide next)

-- the first number side by side, or 0
abbrev pub first_of : Grove → ℕ
first_of Empty = 0
first_of (Tree i m below next) = i

-- the numbers side by side
abbrev pub numbers : Grove → List ℕ
numbers Empty = []
numbers (Tree i m below next) = i ∷ numbers next

-- the nodes of one, and after them those of the other
abbrev pub join : Grove → Grove → Grove
join Empty g = g
join (Tree i m below next) g = Tree i m below (join next g)

-- the number of the node at that place
abbrev pub node_number : ℕ → ℕ → Grove → ℕ
node_number d k Empty = d
node_number d zero (Tree i m below next) = i
node_number d (suc k) (Tree i m below next) = node_number d k next

-- no move, from square 0 to itself
abbrev pub no_move : MoveParts
no_move = record { from = 0; to = 0; promo = None }

-- its move
abbrev pub grove_move : ℕ → Grove → MoveParts
grove_move k Empty = no_move
grove_move zero (Tree i m below next) = m
grove_move (suc k) (Tree i m below next) = grove_move k next

-- the nodes below it
abbrev pub under : ℕ → Grove → Grove
under k Empty = Empty
under zero (Tree i m below next) = below
under (suc k) (Tree i m below next) = under k next

-- the nodes before it
abbrev pub those_before : ℕ → Grove → Grove
those_before k Empty = Empty
those_before zero (Tree i m below next) = Empty
those_before (suc k) (Tree i m below next) = Tree i m below (those_before k next)

-- the nodes after it
abbrev pub those_after : ℕ → Grove → Grove
those_after k Empty = Empty
those_after zero (Tree i m below next) = next
those_after (suc k) (Tree i m below next) = those_after k next

-- another grove below one of them
abbrev pub within : ℕ → (Grove → Grove) → Grove → Grove
within k change Empty = Empty
within zero change (Tree i m below next) = Tree i m (change below) next
within (suc k) change (Tree i m below next) = Tree i m below (within k change next)

-- ---- at a path, from the node with number i that has the grove below it

-- the number of the node at the path
abbrev pub number_at : List ℕ → ℕ → Grove → ℕ
number_at [] i g = i
number_at (k ∷ path) i g = number_at path (node_number i k g) (under k g)

-- the numbers of the nodes on the way to it
abbrev pub trail_at : List ℕ → ℕ → Grove → List ℕ
trail_at [] i g = []
trail_at (k ∷ path) i g = node_number i k g ∷ trail_at path (node_number i k g) (under k g)

-- the nodes below it
abbrev pub under_at : List ℕ → Grove → Grove
under_at [] g = g
under_at (k ∷ path) g = under_at path (under k g)

-- another grove below it
abbrev pub change_at : (Grove → Grove) → List ℕ → Grove → Grove
change_at c [] g = c g
change_at c (k ∷ path) g = within k (change_at c path) g

-- each place of the path is one that the node there has
abbrev pub Ways : List ℕ → Grove → Type 0
Ways [] g = ⊤
Ways (k ∷ path) g = (k < wide g) × Ways path (under k g)
