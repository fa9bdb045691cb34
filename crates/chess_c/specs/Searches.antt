-- A search that the caller drives, one root at a time.
--   IsSearchOf   the search is one of all legal moves of the line, of which there are some, and draws are not claimed in it
--   new_search   a search that has not begun
--   one_more     one root more is searched, if one is left
--   left         how many roots are left
--   best_so_far  the best of the roots that were searched, and its value
--   IsBegunFrom, IsBegun   a search is begun at a depth from 1 to 16 plies; or the depth is another, or there is no legal move, or no memory
--   SlicedFrom, IsSliced   one root more is searched, and how many are left is written; or none was begun
--   next_if, next_size     one root more, unless it is abandoned; how many positions plain minimax asks for it, if one is left
--   SlicedWithinFrom, IsSlicedWithin   one root more is searched, and how many are left is written, or it is abandoned; and how many positions were asked for
--   best_of, IsSoFar       the best so far is written; or none was searched
--   IsEnded                there is no search any more
use Rattle.std.specs.Prelude.{◌≡◌, ◌⊎◌, ◌<◌, ◌≤◌, ℕ, ◌-◌, ◌+◌, min, Bool, true, false, [], take, length, Option, Some, None, ℤ}
use Rattle.chess_types.specs.board.MoveParts.{MoveParts}
use Rattle.chess_types.specs.board.Lines.{Line}
use Rattle.chess_search.specs.Best.{best}
use Rattle.chess_search.specs.Slices.{GoesWith, Progress}
use Rattle.chess_tree.specs.GameTree.{TreeParts, line_to}
use Rattle.chess_uci.specs.Within.{IsWatched, root_size}
use Rattle.chess_bindings.specs.Codes.{argument, empty_slot, no_memory, none_best, ok, was_abandoned}
use Rattle.chess_c.specs.declared.moves.CMove.{CMove}
use Rattle.chess_c.specs.Asked.{IsBest}
use Rattle.chess_c.specs.Held.{Held, Searching, roots, with_search}

-- of all legal moves
pub record IsSearchOf (line : Line) (p : Progress) : Type 0 where
  pub goes : GoesWith line p
  pub roots : p.roots ≡ roots line
  pub claims : p.claims ≡ false
  pub some : 0 < length p.roots

-- no root was searched
abbrev pub new_search : ℕ → Line → Searching
new_search depth line = record { line = line; depth = depth; searched = 0 }

-- one root more
abbrev pub one_more : Searching → Searching
one_more s = record { line = s.line; depth = s.depth; searched = min (s.searched + 1) (length (roots s.line)) }

-- how many roots are left
abbrev pub left : Searching → ℕ
left s = length (roots s.line) - s.searched

-- the best of those that were searched, by plain minimax
abbrev pub best_so_far : Searching → Option (MoveParts × ℤ)
best_so_far s = best false s.depth s.line (take s.searched (roots s.line))

-- a search is begun that replaces another
abbrev pub IsBegunFrom : ℕ → TreeParts → ℕ → (old new : Option Searching) → Type 0
IsBegunFrom depth board code old new =
    ((code ≡ ok) × (1 ≤ depth) × (depth ≤ 16) × (0 < length (roots (line_to board))) × (new ≡ Some (new_search depth (line_to board))))
    ⊎ ((new ≡ old) × (((code ≡ argument) × ((depth ≡ 0) ⊎ (16 < depth))) ⊎ ((code ≡ none_best) × (roots (line_to board) ≡ [])) ⊎ (code ≡ no_memory)))

-- one root more is searched
abbrev pub SlicedFrom : Option Searching → (code said said' : ℕ) → Option Searching → Type 0
SlicedFrom None code said said' new = (code ≡ none_best) × (said' ≡ said) × (new ≡ None)
SlicedFrom (Some s) code said said' new = (code ≡ ok) × (said' ≡ left (one_more s)) × (new ≡ Some (one_more s))

-- one root more, where it wasn't abandoned
abbrev pub next_if : Bool → Searching → Searching
next_if true s = one_more s
next_if false s = s

-- how many positions the next root is worth at most
abbrev pub next_size : Searching → ℕ
next_size s = root_size false s.depth s.line (roots s.line) s.searched

-- by whether it was abandoned
abbrev pub SlicedIf : Bool → Searching → (code said said' : ℕ) → Type 0
SlicedIf true s code said said' = (code ≡ ok) × (said' ≡ left (one_more s))
SlicedIf false s code said said' = (code ≡ was_abandoned) × (said' ≡ said)

-- a root more is searched, or abandoned as a watch says, once `nodes` positions were asked for
pub record StepsWithin (says : ℕ → Option Bool) (s : Searching) (made : Bool) (nodes : ℕ) : Type 0 where
  pub watched : IsWatched says nodes made
  pub at_least : min 1 (next_size s) ≤ nodes
  pub at_most : nodes ≤ next_size s

-- the same of a search that was begun
abbrev pub SlicedWithinFrom : (says : ℕ → Option Bool) → Option Searching → (code said said' nodes nodes' : ℕ) → Option Searching → Type 0
SlicedWithinFrom says None code said said' nodes nodes' new = (code ≡ none_best) × (said' ≡ said) × (nodes' ≡ nodes) × (new ≡ None)
SlicedWithinFrom says (Some s) code said said' nodes nodes' new =
    (made : Bool) × StepsWithin says s made nodes' × SlicedIf made s code said said' × (new ≡ Some (next_if made s))

-- the best so far, if there is one
abbrev pub best_of : Option Searching → Option (MoveParts × ℤ)
best_of None = None
best_of (Some s) = best_so_far s

-- of a slot: a search of the position at the cursor is begun
abbrev pub IsBegun : ℕ → Option Held → ℕ → Option Held → Type 0
IsBegun depth None code new = (code ≡ empty_slot) × (new ≡ None)
IsBegun depth (Some held) code new = (after : Option Searching) × IsBegunFrom depth held.board code held.search after × (new ≡ Some (with_search after held))

-- one root more is searched
abbrev pub IsSliced : Option Held → (code said said' : ℕ) → Option Held → Type 0
IsSliced None code said said' new = (code ≡ empty_slot) × (new ≡ None) × (said' ≡ said)
IsSliced (Some held) code said said' new = (after : Option Searching) × SlicedFrom held.search code said said' after × (new ≡ Some (with_search after held))

-- the same, unless it is abandoned
abbrev pub IsSlicedWithin : (says : ℕ → Option Bool) → Option Held → (code said said' nodes nodes' : ℕ) → Option Held → Type 0
IsSlicedWithin says None code said said' nodes nodes' new = (code ≡ empty_slot) × (new ≡ None) × (said' ≡ said) × (nodes' ≡ nodes)
IsSlicedWithin says (Some held) code said said' nodes nodes' new =
    (after : Option Searching) × SlicedWithinFrom says held.search code said said' nodes nodes' after × (new ≡ Some (with_search after held))

-- the best so far is written
abbrev pub IsSoFar : Option Held → ℕ → (said said' : CMove) → (value value' : ℤ) → Option Held → Type 0
IsSoFar None code said said' value value' new = (code ≡ empty_slot) × (new ≡ None) × (said' ≡ said) × (value' ≡ value)
IsSoFar (Some held) code said said' value value' new = IsBest (best_of held.search) code said said' value value' × (new ≡ Some held)

-- there is no search any more
abbrev pub IsEnded : Option Held → ℕ → Option Held → Type 0
IsEnded None code new = (code ≡ empty_slot) × (new ≡ None)
IsEnded (Some held) code new = (code ≡ ok) × (new ≡ Some (with_search None held))
