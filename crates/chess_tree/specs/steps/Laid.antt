-- How the nodes of a tree lie in the list.
--   Laid      the nodes are the root, those of the game, the freed ones and those in hand; each once
--   IsArena   the game, the freed nodes and the path that the list stands for
--   seen      the root with all below it and the path, read off the list
use Rattle.std.specs.Prelude.{◌≡◌, ℕ, zero, suc, ◌+◌, ◌<◌, ◌≤◌, ◌==◌, nat_lt, if◌then◌else◌, List, [], ◌∷◌, length}
use Rattle.chess_tree.specs.Forest.{height}
use Rattle.chess_tree.specs.steps.Rooted.{Noted, Rooted}
use Rattle.chess_tree.specs.steps.Entries.{Entry, entry_at}
use Rattle.chess_tree.specs.steps.Grove.{Grove, Empty, Tree, first_of, no_move, number_at, numbers, plain, size, tally, times, trail_at, Ways}
use Rattle.chess_tree.specs.steps.Linked.{Chained, Linked}

-- a link is to that one
abbrev pub Same : ℕ → ℕ → Type 0
Same p q = q ≡ p

-- how often a number is the root's, or used
abbrev pub uses : ℕ → Grove → Grove → Grove → ℕ
uses j game freed spare = tally j 0 + times j game + times j freed + times j spare

-- the nodes, each used once
pub record Laid (nodes : List Entry) (free : ℕ) (game freed spare : Grove) : Type 0 where
  pub root : (entry_at nodes 0).children ≡ numbers game
  pub linked : Linked Same (entry_at nodes) 0 0 game
  pub loose : Chained (entry_at nodes) freed
  pub free_is : free ≡ first_of freed
  pub once : (j : ℕ) → j < length nodes → uses j game freed spare ≡ 1
  pub none : (j : ℕ) → length nodes ≤ j → uses j game freed spare ≡ 0
  pub all : 1 + size game + size freed + size spare ≡ length nodes

-- The node at the cursor is that with the number `here`, and `trail` has the numbers on the way to it and room for those on each way down.
pub record IsArena (nodes : List Entry) (noted : ℕ → Noted) (free here : ℕ) (trail : List ℕ) (room : ℕ) : Type 0 where
  pub game : Grove
  pub freed : Grove
  pub path : List ℕ
  pub laid : Laid nodes free game freed Empty
  pub ways : Ways path game
  pub here_is : here ≡ number_at path 0 game
  pub trail_is : trail ≡ trail_at path 0 game
  pub deep : height (plain noted game) ≤ room
  pub few : length nodes ≤ 1000001

-- ---- read off the list

-- the nodes with these numbers, with all below them; at most `n` links are followed in a row
abbrev pub grove_from : ℕ → (ℕ → Entry) → List ℕ → Grove
grove_from zero find is = Empty
grove_from (suc n) find [] = Empty
grove_from (suc n) find (i ∷ is) = Tree i (find i).played (grove_from n find (find i).children) (grove_from n find is)

-- one place further
abbrev pub bump : List ℕ → List ℕ
bump [] = []
bump (k ∷ path) = suc k ∷ path

-- the path to the node with a number
abbrev pub path_to : ℕ → Grove → List ℕ
path_to i Empty = []
path_to i (Tree j m below next) = if i == j then 0 ∷ [] else (if nat_lt 0 (times i below) then 0 ∷ path_to i below else bump (path_to i next))

-- all below the root
abbrev pub all_of : List Entry → Grove
all_of nodes = grove_from (length nodes) (entry_at nodes) (entry_at nodes 0).children

-- the root above a game, and a path to the cursor
abbrev pub standing : (ℕ → Noted) → Grove → List ℕ → Rooted
standing noted game path = record { root = record { move = no_move; nags = (noted 0).nags; comment = (noted 0).comment; below = plain noted game }; path = path }

-- what contracts see
abbrev pub seen : List Entry → (ℕ → Noted) → ℕ → Rooted
seen nodes noted here = standing noted (all_of nodes) (path_to here (all_of nodes))
