-- What a walk keeps of the nodes that are still to come: nodes side by side, those that come first last.
--   seen       a visit of the code
--   left_of    the visits of nodes side by side
--   all_left   those of all that is kept
--   Fits       there is a node, and neither number grows too large
use Rattle.std.specs.Prelude.{◌≡◌, ℕ, ◌+◌, ◌≤◌, Bool, true, false, List, [], ◌∷◌, ◌++◌, Option, ⊤}
use Rattle.chess_types.specs.board.MoveParts.{MoveParts}
use Rattle.chess_tree.specs.Forest.{Forest, Bare, Node, height}
use Rattle.chess_walk.specs.Order as order
use Rattle.chess_walk.specs.Order.{of_main, visits}
use Rattle.chess_walk.specs.declared.walk.Kind.{Kind}
use Rattle.chess_walk.specs.declared.walk.Kind.TheVariants.{Main, Line, Variations}
use Rattle.chess_walk.specs.declared.walk.Todo.{Todo}
use Rattle.chess_walk.specs.declared.walk.Visit.{Visit}

-- by its five fields
abbrev pub seen : {A : Type 0} → Visit A → order.Visit
seen v = record { depth = v.depth; level = v.level; begins = v.begins; again = v.again; node = v.node }

-- as a main line, a line or variations
abbrev pub left_as : Kind → (depth level : ℕ) → Option MoveParts → Forest → List order.Visit
left_as Main depth level again f = of_main depth f
left_as Line depth level again f = visits false depth level again f
left_as Variations depth level again f = visits true depth level again f

-- by what is kept of them
abbrev pub left_of : {A : Type 0} → Todo A → List order.Visit
left_of t = left_as t.kind t.depth t.level t.again t.nodes

-- those of the last that is kept come first
abbrev pub all_left : {A : Type 0} → List (Todo A) → List order.Visit
all_left [] = []
all_left (t ∷ ts) = all_left ts ++ left_of t

-- there is one
abbrev pub is_some_node : Forest → Bool
is_some_node Bare = false
is_some_node (Node m nags comment below next) = true

-- how much more deep than in variations it is at least
abbrev pub least_apart : Kind → ℕ
least_apart Main = 1
least_apart Line = 1
least_apart Variations = 0

-- no more deep than 20,000, and no more variations one within another than moves
pub record Fits {A : Type 0} (t : Todo A) : Type 0 where
  pub some : is_some_node t.nodes ≡ true
  pub level : t.level + least_apart t.kind ≤ t.depth
  pub depth : t.depth + height t.nodes ≤ 20001

-- so are all that are kept
abbrev pub AreFit : {A : Type 0} → List (Todo A) → Type 0
AreFit [] = ⊤
AreFit (t ∷ ts) = Fits t × AreFit ts
