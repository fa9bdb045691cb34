-- A slice that a watch may have abandoned.
--   root_size    how many positions plain minimax asks for in the next root of a search, where one is left
--   slice_size   the same of a session's slice
--   IsWatched    a slice asked for `nodes` positions, and was made or abandoned as the watch said
use Rattle.std.specs.Prelude.{◌≡◌, ℕ, zero, suc, ◌-◌, nat_lt, Bool, true, false, List, take, drop, length, Option, Some, None}
use Rattle.chess_types.specs.board.MoveParts.{MoveParts}
use Rattle.chess_types.specs.board.Lines.{Line as GameLine}
use Rattle.chess_search.specs.Asked.{trees_below}
use Rattle.chess_search.specs.Watches.{Watched}
use Rattle.chess_uci.specs.Machine.{Search, State}

-- those below the first of the moves, where there is one
abbrev pub size_if : Bool → (claims : Bool) → (depth : ℕ) → GameLine → List MoveParts → ℕ
size_if false claims depth line left = 0
size_if true claims depth line left = trees_below claims (depth - 1) line (take 1 left)

-- the next of the roots
abbrev pub root_size : (claims : Bool) → (depth : ℕ) → GameLine → (roots : List MoveParts) → (searched : ℕ) → ℕ
root_size claims depth line roots searched = size_if (nat_lt searched (length roots)) claims depth line (drop searched roots)

-- none where no search runs
abbrev pub search_size : GameLine → Option Search → ℕ
search_size line None = 0
search_size line (Some x) = root_size x.claims x.depth line x.roots x.searched

-- nor after `quit`
abbrev pub size_after : Bool → State → ℕ
size_after true s = 0
size_after false s = search_size s.line s.search

-- how many positions a slice asks for at most
abbrev pub slice_size : State → ℕ
slice_size s = size_after s.ended s

-- where none was asked for, the watch wasn't asked, and nothing was abandoned
abbrev pub IsWatched : (says : ℕ → Option Bool) → (nodes : ℕ) → (made : Bool) → Type 0
IsWatched says zero made = made ≡ true
IsWatched says (suc n) made = Watched says 0 (suc n) made
