-- A session as a machine: what each event is replied, and the state that follows.
--   Event        a line that is read, time for a slice of a search, or a reading of the clock
--   AsksForMemory   the command asks for memory: a position that needs some
--   Search       a search that runs
--   State        the session between two events
--   beginning    as it begins
--   roots_of     the moves that a search is about
--   begun        a search as it begins
--   chosen       the move that is reported when it ends
--   slice        one root more is searched, at depths 1, 2, .. up to the last, and at each from the first root to the last; `slice_row` is the table
--   is_reached   the clock has come to the end of the search
--   step         the replies to an event, and the state afterwards
--   is_infinite, is_waiting, depth_done, so_far, time_left   what is shown of a search
--   IsAhead      a search that runs hasn't passed its last depth, and where it has no root left it is infinite
use Rattle.std.specs.Prelude.{◌≡◌, ◌≤◌, ⊤, ℕ, ◌+◌, ◌-◌, ◌==◌, nat_le, nat_lt, max, Bool, true, false, ◌&&◌, List, [], ◌∷◌, ◌++◌, length, take, filter, Option, Some, None, option_map, ℤ}
use Rattle.chess_types.specs.board.MoveParts.{MoveParts}
use Rattle.chess_types.specs.board.Texts.{move_text}
use Rattle.chess_types.specs.board.Legal.{legal_moves}
use Rattle.chess_types.specs.board.Lines.{Line as GameLine, last}
use Rattle.chess_search.specs.Best.{best}
use Rattle.chess_uci.specs.declared.reply.Reply.{Reply}
use Rattle.chess_uci.specs.declared.reply.Reply.TheVariants.{Name, Author, ClaimsOption, UciOk, ReadyOk, Refused, OutOfMemory, Busy, Info, BestMove}
use Rattle.chess_uci.specs.Commands.{Command, Idle, Uci, IsReady, NewGame, Position, Unplaced, Go, Stop, Quit, SetOption, command_in, without_memory, claims_set}
use Rattle.chess_uci.specs.Go.{fields, is_searchmove, budget, last_depth}
use Rattle.chess_uci.specs.Placing.{Grows, start_line, placed}

-- what happens to a session
pub data Event : Type 0 where
  Line : List ℕ → Event
  -- a line for which a growth of memory is refused
  Starved : List ℕ → Event
  Slice : Event
  Moment : ℕ → Event

-- only a `position` asks for memory, and only where it has a FEN or a move to add
abbrev pub AsksForMemory : Command → Type 0
AsksForMemory (Position words) = Grows words
AsksForMemory _ = ⊥

-- A search that runs.
--   claims     draws that may be claimed count as draws
--   last       its last depth
--   end        the moment that ends it, if one does
--   depth      the depth that is searched, or, where it waits, the last
--   searched   how many of the roots were searched at that depth
--   done       the last completed depth, 0 before the first
--   completed  the best root at that depth, and its value
pub record Search : Type 0 where
  pub claims : Bool
  pub roots : List MoveParts
  pub last : ℕ
  pub infinite : Bool
  pub end : Option ℕ
  pub depth : ℕ
  pub searched : ℕ
  pub done : ℕ
  pub completed : Option (MoveParts × ℤ)

-- what a session keeps between events
pub record State : Type 0 where
  pub line : GameLine
  -- the greatest moment seen
  pub moment : ℕ
  -- `quit` came
  pub ended : Bool
  -- the option Claims
  pub claims : Bool
  pub search : Option Search

-- a session at its beginning: the start position, no search
abbrev pub beginning : State
beginning = record { line = start_line; moment = 0; ended = false; claims = false; search = None }

-- what is replied, and the state afterwards
abbrev pub Step : Type 0
Step = List Reply × State

-- these moves, or all legal ones where there are none
abbrev pub or_all : List MoveParts → List MoveParts → List MoveParts
or_all [] legal = legal
or_all (m ∷ ms) legal = m ∷ ms

-- the legal moves that are named, in their order; all of them where none is
abbrev pub roots_of : GameLine → List (List ℕ) → List MoveParts
roots_of line words = or_all (filter (λ m. is_searchmove words (move_text m)) (legal_moves (last line))) (legal_moves (last line))

-- the search that a `go` begins
abbrev pub begun : State → List (List ℕ) → Search
begun s words = record {
  claims = s.claims;
  roots = roots_of s.line words;
  last = last_depth (fields words) (last s.line).side;
  infinite = (fields words).infinite;
  end = option_map (λ b. s.moment + b) (budget (fields words) (last s.line).side);
  depth = 1;
  searched = 0;
  done = 0;
  completed = None;
}

-- with no legal move there is nothing to search, but an infinite search waits for `stop`
abbrev pub go_among : List MoveParts → Bool → Search → State → Step
go_among [] false search s = (BestMove None ∷ [], s)
go_among [] true search s = ([], record s { search = Some search })
go_among (m ∷ ms) infinite search s = ([], record s { search = Some search })

-- a `go` while no search runs
abbrev pub go : State → List (List ℕ) → Step
go s words = go_among (legal_moves (last s.line)) (fields words).infinite (begun s words) s

-- the first of the moves that a search is to choose among
abbrev pub first_root : List MoveParts → Option MoveParts
first_root [] = None
first_root (m ∷ ms) = Some m

-- the best move of the last completed depth, else the first root
abbrev pub chosen : Option (MoveParts × ℤ) → List MoveParts → Option MoveParts
chosen (Some best) roots = Some best.0
chosen None roots = first_root roots

-- what is replied in a search, and the search afterwards, if it goes on
abbrev pub Turn : Type 0
Turn = List Reply × Option Search

-- the replies of a turn, and the state with its search
abbrev pub after_turn : Turn → State → Step
after_turn t s = (t.0, record s { search = t.1 })

-- the search ends with its `bestmove`
abbrev pub ended_with : Option (MoveParts × ℤ) → List MoveParts → Turn
ended_with completed roots = (BestMove (chosen completed roots) ∷ [], None)

-- a `position`: its line, or the reply that it is refused
abbrev pub placed_at : Option GameLine → State → Step
placed_at None s = (Refused ∷ [], s)
placed_at (Some line) s = ([], record s { line = line })

-- whether draws that may be claimed count as draws
abbrev pub set_claims : Option Bool → State → Step
set_claims None s = ([], s)
set_claims (Some claims) s = ([], record s { claims = claims })

-- no search, and nothing more is replied
abbrev pub quit : State → Step
quit s = ([], record s { ended = true; search = None })

-- what `uci` is replied
abbrev pub introduction : List Reply
introduction = Name ∷ Author ∷ ClaimsOption ∷ UciOk ∷ []

-- what a command does while no search runs
abbrev pub idle_command : State → Command → Step
idle_command s Idle = ([], s)
idle_command s Uci = (introduction, s)
idle_command s IsReady = (ReadyOk ∷ [], s)
idle_command s NewGame = ([], record s { line = start_line })
idle_command s (Position words) = placed_at (placed words) s
idle_command s Unplaced = (OutOfMemory ∷ [], s)
idle_command s (Go words) = go s words
idle_command s Stop = ([], s)
idle_command s Quit = quit s
idle_command s (SetOption words) = set_claims (claims_set words) s

-- and while one does
abbrev pub busy_command : Search → State → Command → Step
busy_command x s Idle = ([], s)
busy_command x s Uci = (introduction, s)
busy_command x s IsReady = (ReadyOk ∷ [], s)
busy_command x s NewGame = (Busy ∷ [], s)
busy_command x s (Position words) = (Busy ∷ [], s)
busy_command x s Unplaced = (Busy ∷ [], s)
busy_command x s (Go words) = (Busy ∷ [], s)
busy_command x s Stop = after_turn (ended_with x.completed x.roots) s
busy_command x s Quit = quit s
busy_command x s (SetOption words) = (Busy ∷ [], s)

-- what a command does
abbrev pub line_step : State → Option Search → Command → Step
line_step s None command = idle_command s command
line_step s (Some x) command = busy_command x s command

-- what is reported of a completed depth
abbrev pub info : ℕ → Option (MoveParts × ℤ) → List Reply
info depth None = []
info depth (Some best) = Info depth best.0 best.1 ∷ []

-- the best of the roots at the depth that is searched, and its value
abbrev pub depth_best : GameLine → Search → Option (MoveParts × ℤ)
depth_best line x = best x.claims x.depth line x.roots

-- What a slice does (UCI `info`, `bestmove`), by whether a root is left at the depth, whether it is the last of them, whether the depth is the
-- last, and whether the search is infinite.
abbrev pub slice_row : (left last_root last_depth infinite : Bool) → GameLine → Search → Turn
-- no root is left: the search waits for `stop`
slice_row false _ _ _ line x = ([], Some x)
-- a root is searched, and others are left
slice_row true false _ _ line x = ([], Some (record x { searched = x.searched + 1 }))
-- a depth is complete and reported, and the next one begins
slice_row true true false _ line x = (info x.depth (depth_best line x), Some (record x { depth = x.depth + 1; searched = 0; done = x.depth; completed = depth_best line x }))
-- the last depth is complete and reported, and an infinite search waits
slice_row true true true true line x = (info x.depth (depth_best line x), Some (record x { searched = x.searched + 1; done = x.depth; completed = depth_best line x }))
-- any other search ends with it
slice_row true true true false line x = (info x.depth (depth_best line x) ++ BestMove (chosen (depth_best line x) x.roots) ∷ [], None)

-- a slice of a search on its line
abbrev pub slice : GameLine → Search → Turn
slice line x = slice_row (nat_lt x.searched (length x.roots)) (x.searched + 1 == length x.roots) (x.depth == x.last) x.infinite line x

-- a slice of the search, if one runs
abbrev pub slice_step : Option Search → State → Step
slice_step None s = ([], s)
slice_step (Some x) s = after_turn (slice s.line x) s

-- a moment that is not before the end, if there is one
abbrev pub is_reached : Option ℕ → ℕ → Bool
is_reached None moment = false
is_reached (Some end) moment = nat_le end moment

-- the search ends where its time is over
abbrev pub end_if : Bool → Search → Turn
end_if false x = ([], Some x)
end_if true x = ended_with x.completed x.roots

-- at the state's moment, which is the greatest seen
abbrev pub moment_step : Option Search → State → Step
moment_step None s = ([], s)
moment_step (Some x) s = after_turn (end_if (is_reached x.end s.moment) x) s

-- what an event does to a session that has not ended
abbrev pub live_step : State → Event → Step
live_step s (Line bytes) = line_step s s.search (command_in bytes)
live_step s (Starved bytes) = line_step s s.search (without_memory (command_in bytes))
live_step s Slice = slice_step s.search s
live_step s (Moment moment) = moment_step s.search (record s { moment = max s.moment moment })

-- after `quit` nothing is replied
abbrev pub step_if : Bool → State → Event → Step
step_if true s event = ([], s)
step_if false s event = live_step s event

-- after `quit` nothing is answered
abbrev pub step : State → Event → Step
step s event = step_if s.ended s event

-- an infinite search runs
abbrev pub is_infinite : Option Search → Bool
is_infinite None = false
is_infinite (Some x) = x.infinite

-- it has completed its last depth, or has no root
abbrev pub is_waiting : Option Search → Bool
is_waiting None = false
is_waiting (Some x) = x.infinite && nat_le (length x.roots) x.searched

-- the last completed depth of the search that runs
abbrev pub depth_done : Option Search → ℕ
depth_done None = 0
depth_done (Some x) = x.done

-- the best of the roots that were searched at the depth that is searched, and its value
abbrev pub so_far : GameLine → Option Search → Option (MoveParts × ℤ)
so_far line None = None
so_far line (Some x) = best x.claims x.depth line (take x.searched x.roots)

-- the milliseconds from the moment to the one that ends the search, 0 where it has come
abbrev pub left_of : ℕ → Option Search → Option ℕ
left_of moment None = None
left_of moment (Some x) = option_map (λ end. end - moment) x.end

-- those of the search that runs, from the greatest moment seen
abbrev pub time_left : State → Option ℕ
time_left s = left_of s.moment s.search

-- what holds of a search while it runs
pub record IsRunning (x : Search) : Type 0 where
  pub ahead : x.depth ≤ x.last
  pub shallow : x.last ≤ 16
  pub waits : length x.roots ≤ x.searched → x.infinite ≡ true

-- a search, if one runs, is within its depths
abbrev pub IsAhead : Option Search → Type 0
IsAhead None = ⊤
IsAhead (Some x) = IsRunning x
