-- Laws of the machine, over every list of events.
--   after_events, replies  the state after some events, and what they are replied
--   best_moves         how many of some replies report a best move
--   taken              how many `go` lines before `quit` are not refused as busy
--   unfinished         whether a search runs at the end, or ran when `quit` came
--   AnswersEachGo      as many best moves as such `go` lines, less one where a search is unfinished
--   cause              the event ends a search, or is a `go` without a legal move
--   AnswersAtTheEnd    a best move is reported exactly there, and once
--   IsReadyAlone       `isready` is answered at its own event, and all else is as without it
--   SilentAfterQuit    nothing is answered after `quit`
--   ReportsTheBest     what is reported of a depth, and each best move, is the best among the roots
--   SearchStays        the line, the roots, the last depth and the end of a search stay while it runs
use Rattle.std.specs.Prelude.{◌≡◌, ⊤, ℕ, zero, suc, ◌+◌, ◌==◌, max, Bool, true, false, ◌&&◌, not, if◌then◌else◌, List, [], ◌∷◌, ◌++◌, length, count_by, Option, Some, None, is_some, ℤ}
use Rattle.chess_types.specs.board.MoveParts.{MoveParts}
use Rattle.chess_types.specs.board.Legal.{legal_moves}
use Rattle.chess_types.specs.board.Lines.{Line as GameLine, last}
use Rattle.chess_search.specs.Best.{best}
use Rattle.chess_uci.specs.declared.reply.Reply.{Reply}
use Rattle.chess_uci.specs.declared.reply.Reply.TheVariants.{ReadyOk, Info, BestMove}
use Rattle.chess_uci.specs.Commands.{Command, IsReady, Go, Stop, Quit, command_in, without_memory}
use Rattle.chess_uci.specs.Go.{fields}
use Rattle.chess_uci.specs.Machine.{Event, Line, Starved, Slice, Moment, Search, State, beginning, step, is_reached, chosen}

-- the state after some events
abbrev pub after_events : State → List Event → State
after_events s [] = s
after_events s (event ∷ events) = after_events (step s event).1 events

-- what some events are replied
abbrev pub replies : State → List Event → List Reply
replies s [] = []
replies s (event ∷ events) = (step s event).0 ++ replies (step s event).1 events

-- 1 where it holds, else 0
abbrev pub one : Bool → ℕ
one true = 1
one false = 0

-- a reply `bestmove`
abbrev pub is_best_move : Reply → Bool
is_best_move (BestMove m) = true
is_best_move _ = false

-- how many replies are `bestmove`
abbrev pub best_moves : List Reply → ℕ
best_moves rs = count_by is_best_move rs

-- a command `go`
abbrev pub is_go : Command → Bool
is_go (Go words) = true
is_go _ = false

-- a command `quit`
abbrev pub is_quit : Command → Bool
is_quit Quit = true
is_quit _ = false

-- the event is a line that asks for such a command
abbrev pub says : (Command → Bool) → Event → Bool
says asked (Line bytes) = asked (command_in bytes)
says asked (Starved bytes) = asked (without_memory (command_in bytes))
says asked Slice = false
says asked (Moment moment) = false

-- a search runs
abbrev pub running : State → ℕ
running s = one (is_some s.search)

-- a `go` line that is not refused as busy
abbrev pub is_taken : Bool → Bool → Bool → Bool
is_taken true searching go = false
is_taken false true go = false
is_taken false false go = go

-- how many such lines are among the events before `quit`
abbrev pub taken : State → List Event → ℕ
taken s [] = 0
taken s (event ∷ events) = one (is_taken s.ended (is_some s.search) (says is_go event)) + taken (step s event).1 events

-- whether a search runs at the end, or ran when `quit` came
abbrev pub unfinished : State → List Event → ℕ
unfinished s [] = running s
unfinished s (event ∷ events) = if says is_quit event then running s else unfinished (step s event).1 events

-- As many best moves as `go` lines before `quit` that are not refused as busy, less one where a search runs or ran at `quit`.
abbrev pub AnswersEachGo : Type 0
AnswersEachGo =
    (events : List Event) →
    best_moves (replies beginning events) + unfinished beginning events ≡ taken beginning events

-- Why an event is replied a best move.
abbrev pub by_depth : Option Search → Bool
by_depth None = false
by_depth (Some x) = x.searched + 1 == length x.roots && x.depth == x.last && not x.infinite

-- a search whose time is over at this moment
abbrev pub by_time : Option Search → ℕ → Bool
by_time None moment = false
by_time (Some x) moment = is_reached x.end moment

-- a `go` without a legal move that is not infinite
abbrev pub at_once : List MoveParts → Bool → Bool
at_once [] infinite = not infinite
at_once (m ∷ ms) infinite = false

-- a `go` that is answered at once: no legal move, and no waiting for `stop`
abbrev pub by_command : GameLine → Command → Bool
by_command l (Go words) = at_once (legal_moves (last l)) (fields words).infinite
by_command l _ = false

-- a command `stop`
abbrev pub is_stop : Command → Bool
is_stop Stop = true
is_stop _ = false

-- a line that brings a `bestmove`: a `go` that is answered at once, or `stop` while a search runs
abbrev pub by_line : GameLine → Option Search → Command → Bool
by_line l None command = by_command l command
by_line l (Some x) command = is_stop command

-- a search ends by its last depth, by time or by `stop`, or a `go` is answered at once
abbrev pub cause : State → Event → Bool
cause s (Line bytes) = by_line s.line s.search (command_in bytes)
cause s (Starved bytes) = by_line s.line s.search (without_memory (command_in bytes))
cause s Slice = by_depth s.search
cause s (Moment moment) = by_time s.search (max s.moment moment)

-- A best move is replied exactly there, and once.
abbrev pub AnswersAtTheEnd : Type 0
AnswersAtTheEnd =
    (events : List Event) (event : Event) →
    let s = after_events beginning events in
    s.ended ≡ false → best_moves (step s event).0 ≡ one (cause s event)

-- `isready` is answered at its own event, and all else is as without it.
abbrev pub IsReadyAlone : Type 0
IsReadyAlone =
    (before later : List Event) (line : List ℕ) →
    let s = after_events beginning before in
    command_in line ≡ IsReady → s.ended ≡ false →
    (replies beginning (before ++ Line line ∷ later) ≡ replies beginning before ++ ReadyOk ∷ replies s later)
    × (replies beginning (before ++ later) ≡ replies beginning before ++ replies s later)
    × (after_events beginning (before ++ Line line ∷ later) ≡ after_events beginning (before ++ later))

-- After `quit` nothing is answered.
abbrev pub SilentAfterQuit : Type 0
SilentAfterQuit =
    (before later : List Event) (line : List ℕ) →
    command_in line ≡ Quit → replies beginning (before ++ Line line ∷ later) ≡ replies beginning before

-- the best at the last completed depth
abbrev pub best_done : GameLine → Search → ℕ → Option (MoveParts × ℤ)
best_done l x zero = None
best_done l x (suc d) = best x.claims (suc d) l x.roots

-- each element of a list
abbrev pub ForEach : {X : Type 0} → (X → Type 0) → List X → Type 0
ForEach P [] = ⊤
ForEach P (x ∷ xs) = P x × ForEach P xs

-- the last depth that is complete after an event that ends a search
abbrev pub finished : Search → Event → ℕ
finished x (Line bytes) = x.done
finished x (Starved bytes) = x.done
finished x Slice = x.depth
finished x (Moment moment) = x.done

-- What a reply reports is the best at its depth among the roots, on the line as it is.
abbrev pub ReportsBest : GameLine → Option Search → Event → Reply → Type 0
ReportsBest l None event (Info depth m value) = ⊥
ReportsBest l (Some x) event (Info depth m value) = (depth ≡ x.depth) × (best x.claims depth l x.roots ≡ Some (m, value))
ReportsBest l None event (BestMove m) = m ≡ None
ReportsBest l (Some x) event (BestMove m) = m ≡ chosen (best_done l x (finished x event)) x.roots
ReportsBest l x event _ = ⊤

-- Each `info` and each best move is the best among the roots at the depth that it names, or the last completed, whatever events came before.
abbrev pub ReportsTheBest : Type 0
ReportsTheBest =
    (events : List Event) (event : Event) →
    let s = after_events beginning events in
    ForEach (ReportsBest s.line s.search event) (step s event).0

-- the same search goes on, on the same line
abbrev pub KeepsSearching : GameLine → Search → GameLine → Option Search → Type 0
KeepsSearching l x m None = ⊤
KeepsSearching l x m (Some y) =
    (m ≡ l) × (y.claims ≡ x.claims) × (y.roots ≡ x.roots) × (y.last ≡ x.last) × (y.infinite ≡ x.infinite) × (y.end ≡ x.end)

-- While a search runs, its line, its roots, its last depth and its end stay.
abbrev pub SearchStays : Type 0
SearchStays =
    (events : List Event) (event : Event) (x : Search) →
    let s = after_events beginning events in
    s.search ≡ Some x → KeepsSearching s.line x (step s event).1.line (step s event).1.search
