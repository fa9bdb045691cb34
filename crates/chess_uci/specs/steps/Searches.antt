-- The code's searches and turns as those of the machine.
--   search_of, seen     a search that runs, or none
--   turn_of             what a turn replies and leaves
--   completed           the turn in which a depth is complete
--   GoesOn, IsGoing     the search is one of the line, and where it has no root left it is infinite
--   HasStarted          it has begun at the moment or before
use Rattle.std.specs.Prelude.{◌≡◌, ⊤, ℕ, ◌+◌, ◌≤◌, Bool, true, false, [], ◌∷◌, ◌++◌, length, Option, Some, None, option_map, ℤ}
use Rattle.chess_types.specs.board.MoveParts.{MoveParts}
use Rattle.chess_types.specs.board.Lines.{Line as GameLine}
use Rattle.chess_search.specs.Slices.{GoesWith}
use Rattle.chess_uci.specs.declared.search.Search.{Search as Code}
use Rattle.chess_uci.specs.declared.search.Turn.{Turn as TurnCode}
use Rattle.chess_uci.specs.declared.reply.Reply.TheVariants.{BestMove}
use Rattle.chess_uci.specs.Machine.{Search, Turn, chosen, info}

-- the search that the code passes
abbrev pub search_of : Code → Search
search_of x = record {
  claims = x.slices.claims;
  roots = x.slices.roots;
  last = x.last;
  infinite = x.infinite;
  end = option_map (λ b. x.begin + b) x.budget;
  depth = x.slices.depth;
  searched = x.slices.searched;
  done = x.done;
  completed = x.completed;
}

abbrev pub seen : Option Code → Option Search
seen x = option_map search_of x

-- the search, unless it is over
abbrev pub unless_over : Bool → Code → Option Search
unless_over true x = None
unless_over false x = Some (search_of x)

-- the turn that the code passes
abbrev pub turn_of : TurnCode → Code → Turn
turn_of t x = (t.replies.items, unless_over t.over x)

-- The last root of a depth was searched, of which this is the best: the table's last rows, by whether it is the last depth and whether the search
-- is infinite.
abbrev pub completed : Bool → Bool → Search → Option (MoveParts × ℤ) → Turn
completed false infinite x best = (info x.depth best, Some (record x { depth = x.depth + 1; searched = 0; done = x.depth; completed = best }))
completed true true x best = (info x.depth best, Some (record x { done = x.depth; completed = best }))
completed true false x best = (info x.depth best ++ BestMove (chosen best x.roots) ∷ [], None)

-- what holds of a search between slices
pub record GoesOn (line : GameLine) (x : Code) : Type 0 where
  pub goes : GoesWith line x.slices
  pub shallow : x.last ≤ 16
  pub depth : x.slices.depth ≤ x.last
  pub deep : 1 ≤ x.slices.depth
  pub waits : length x.slices.roots ≤ x.slices.searched → x.infinite ≡ true

-- what holds of a search, if there is one
abbrev pub IsGoing : GameLine → Option Code → Type 0
IsGoing line None = ⊤
IsGoing line (Some x) = GoesOn line x

-- the search, if there is one, began no later than this
abbrev pub HasStarted : ℕ → Option Code → Type 0
HasStarted moment None = ⊤
HasStarted moment (Some x) = x.begin ≤ moment
