-- What a search keeps and reports is the best.
use Rattle.std.proofs.Common.{◌≡◌, ℕ, zero, suc, ◌+◌, ◌==◌, ◌<◌, max, Bool, true, false, List, [], ◌∷◌, ◌++◌, length, Option, Some, None, refl, sym, ap, ◌∙◌, subst, arith, ℤ}
use Rattle.std.specs.Prelude.{nat_lt, ⊤}
use Rattle.chess_types.specs.board.MoveParts.{MoveParts}
use Rattle.chess_types.specs.board.Legal.{legal_moves}
use Rattle.chess_types.specs.board.Lines.{Line as GameLine, last}
use Rattle.chess_search.specs.Best.{best}
use Rattle.chess_uci.specs.declared.reply.Reply.TheVariants.{BestMove}
use Rattle.chess_uci.specs.Placing.{placed}
use Rattle.chess_uci.specs.Commands.{Command, Idle, Uci, IsReady, NewGame, Position, Unplaced, Go, Stop, Quit, SetOption, command_in, without_memory, claims_set}
use Rattle.chess_uci.specs.Go.{fields}
use Rattle.chess_uci.specs.Machine.{Event, Line, Starved, Slice, Moment, Search, State, Step, Turn, beginning, step, step_if, live_step, line_step, idle_command, busy_command, go_among, placed_at, set_claims, slice_step, slice_row, depth_best, info, moment_step, end_if, is_reached, chosen, begun}
use Rattle.chess_uci.specs.Laws.{after_events, ForEach, ReportsBest, ReportsTheBest, finished, best_done}

-- what is kept of the last completed depth is the best there
abbrev IsKept : GameLine → Option Search → Type 0
IsKept l None = ⊤
IsKept l (Some x) = (x.completed ≡ best_done l x x.done) × (0 < x.depth)

-- a step keeps what a search keeps, and reports the best
abbrev Good : GameLine → Option Search → Event → Step → Type 0
Good l x event t = IsKept t.1.line t.1.search × ForEach (ReportsBest l x event) t.0

best_done_at : (l : GameLine) (x : Search) (d : ℕ) → 0 < d → best_done l x d ≡ best x.claims d l x.roots
best_done_at l x zero h = absurd (omega arith)
best_done_at l x (suc d) h = refl

go_good : (s : State) (event : Event) (legal : List MoveParts) (infinite : Bool) (words : List (List ℕ)) → s.search ≡ None →
    Good s.line None event (go_among legal infinite (begun s words) s)
go_good s event [] false words e = (rw e tt, (refl, tt))
go_good s event [] true words e = ((refl, omega arith), tt)
go_good s event (m ∷ ms) infinite words e = ((refl, omega arith), tt)

placed_good : (s : State) (event : Event) (l : Option GameLine) → s.search ≡ None → Good s.line None event (placed_at l s)
placed_good s event None e = (rw e tt, (tt, tt))
placed_good s event (Some l) e = (rw e tt, tt)

claims_good : (s : State) (event : Event) (c : Option Bool) → s.search ≡ None → Good s.line None event (set_claims c s)
claims_good s event None e = (rw e tt, tt)
claims_good s event (Some c) e = (rw e tt, tt)

idle_good : (s : State) (event : Event) (c : Command) → s.search ≡ None → Good s.line None event (idle_command s c)
idle_good s event Idle e = (rw e tt, tt)
idle_good s event Uci e = (rw e tt, (tt, (tt, (tt, (tt, tt)))))
idle_good s event IsReady e = (rw e tt, (tt, tt))
idle_good s event NewGame e = (rw e tt, tt)
idle_good s event (Position words) e = placed_good s event (placed words) e
idle_good s event Unplaced e = (rw e tt, (tt, tt))
idle_good s event (Go words) e = go_good s event (legal_moves (last s.line)) (fields words).infinite words e
idle_good s event Stop e = (rw e tt, tt)
idle_good s event Quit e = (tt, tt)
idle_good s event (SetOption words) e = claims_good s event (claims_set words) e

-- while a search runs
busy_good : (s : State) (event : Event) (x : Search) (c : Command) → IsKept s.line s.search → s.search ≡ Some x → finished x event ≡ x.done →
    Good s.line (Some x) event (busy_command x s c)
busy_good s event x Idle k e f = (k, tt)
busy_good s event x Uci k e f = (k, (tt, (tt, (tt, (tt, tt)))))
busy_good s event x Stop k e f =
    let kept : IsKept s.line (Some x) = subst (IsKept s.line) e k in
    (tt, (ap (λ b. chosen b x.roots) (kept.0 ∙ ap (best_done s.line x) (sym f)), tt))
busy_good s event x Quit k e f = (tt, tt)
busy_good s event x _ k e f = (k, (tt, tt))

-- the same of a turn
abbrev GoodTurn : GameLine → Search → Event → Turn → Type 0
GoodTurn l x event t = IsKept l t.1 × ForEach (ReportsBest l (Some x) event) t.0

-- a depth is reported by its best
info_good : (l : GameLine) (x : Search) (found : Option (MoveParts × ℤ)) → found ≡ best x.claims x.depth l x.roots → ForEach (ReportsBest l (Some x) Slice) (info x.depth found)
info_good l x None e = tt
info_good l x (Some m) e = ((refl, sym e), tt)

last_good : (l : GameLine) (x : Search) (found : Option (MoveParts × ℤ)) → 0 < x.depth → found ≡ best x.claims x.depth l x.roots →
    ForEach (ReportsBest l (Some x) Slice) (info x.depth found ++ BestMove (chosen found x.roots) ∷ [])
last_good l x None deep e = (ap (λ b. chosen b x.roots) (e ∙ sym (best_done_at l x x.depth deep)), tt)
last_good l x (Some m) deep e = ((refl, sym e), (ap (λ b. chosen b x.roots) (e ∙ sym (best_done_at l x x.depth deep)), tt))

row_good : (l : GameLine) (left last_root last_depth infinite : Bool) (x : Search) → IsKept l (Some x) → GoodTurn l x Slice (slice_row left last_root last_depth infinite l x)
row_good l false _ _ _ x k = (k, tt)
row_good l true false _ _ x k = (k, tt)
row_good l true true false _ x k = ((sym (best_done_at l x x.depth k.1), omega arith), info_good l x (depth_best l x) refl)
row_good l true true true true x k = ((sym (best_done_at l x x.depth k.1), k.1), info_good l x (depth_best l x) refl)
row_good l true true true false x k = (tt, last_good l x (depth_best l x) k.1 refl)

end_good : (l : GameLine) (moment : ℕ) (reached : Bool) (x : Search) → IsKept l (Some x) → GoodTurn l x (Moment moment) (end_if reached x)
end_good l moment false x k = (k, tt)
end_good l moment true x k = (tt, (ap (λ b. chosen b x.roots) k.0, tt))

line_good : (s : State) (event : Event) (x : Option Search) (c : Command) → IsKept s.line s.search → s.search ≡ x → ((y : Search) → finished y event ≡ y.done) →
    Good s.line x event (line_step s x c)
line_good s event None c k e f = idle_good s event c e
line_good s event (Some x) c k e f = busy_good s event x c k e (f x)

slice_step_good : (s : State) (x : Option Search) → IsKept s.line s.search → s.search ≡ x → Good s.line x Slice (slice_step x s)
slice_step_good s None k e = (k, tt)
slice_step_good s (Some x) k e = row_good s.line (nat_lt x.searched (length x.roots)) (x.searched + 1 == length x.roots) (x.depth == x.last) x.infinite x (subst (IsKept s.line) e k)

moment_good : (s : State) (moment : ℕ) (x : Option Search) → IsKept s.line s.search → s.search ≡ x → Good s.line x (Moment moment) (moment_step x s)
moment_good s moment None k e = (k, tt)
moment_good s moment (Some x) k e = end_good s.line moment (is_reached x.end s.moment) x (subst (IsKept s.line) e k)

live_good : (s : State) (event : Event) → IsKept s.line s.search → Good s.line s.search event (live_step s event)
live_good s (Line bytes) k = line_good s (Line bytes) s.search (command_in bytes) k refl (λ y. refl)
live_good s (Starved bytes) k = line_good s (Starved bytes) s.search (without_memory (command_in bytes)) k refl (λ y. refl)
live_good s Slice k = slice_step_good s s.search k refl
live_good s (Moment moment) k = moment_good (record s { moment = max s.moment moment }) moment s.search k refl

step_if_good : (ended : Bool) (s : State) (event : Event) → IsKept s.line s.search → Good s.line s.search event (step_if ended s event)
step_if_good true s event k = (k, tt)
step_if_good false s event k = live_good s event k

after_kept : (s : State) (events : List Event) → IsKept s.line s.search → IsKept (after_events s events).line (after_events s events).search
after_kept s [] k = k
after_kept s (event ∷ events) k = after_kept (step s event).1 events (step_if_good s.ended s event k).0

pub reports_the_best : ReportsTheBest
reports_the_best events event =
    let s = after_events beginning events in
    (step_if_good s.ended s event (after_kept beginning events tt)).1
