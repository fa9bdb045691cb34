-- How many best moves an event is replied.
use Rattle.std.proofs.Common.{◌≡◌, ℕ, ◌+◌, ◌==◌, max, Bool, true, false, cond, List, [], ◌∷◌, ◌++◌, length, Option, Some, None, add-zero, refl, sym, ap, ◌∙◌, arith, ℤ}
use Rattle.std.specs.Prelude.{is_some, nat_lt}
use Rattle.std.proofs.lemmas.List.Sums.{sum_by-append}
use Rattle.chess_types.specs.board.MoveParts.{MoveParts}
use Rattle.chess_types.specs.board.Legal.{legal_moves}
use Rattle.chess_types.specs.board.Lines.{Line as GameLine, last}
use Rattle.chess_uci.specs.Placing.{placed}
use Rattle.chess_uci.specs.declared.reply.Reply.{Reply}
use Rattle.chess_uci.specs.declared.reply.Reply.TheVariants.{BestMove}
use Rattle.chess_uci.specs.Commands.{Command, Position, Go, Stop, Quit, SetOption, command_in, without_memory, claims_set}
use Rattle.chess_uci.specs.Go.{fields}
use Rattle.chess_uci.specs.Machine.{Event, Line, Starved, Slice, Moment, Search, State, Step, Turn, step, step_if, live_step, line_step, idle_command, busy_command, go_among, placed_at, set_claims, slice_step, slice_row, depth_best, chosen, info, moment_step, end_if, is_reached, begun}
use Rattle.chess_uci.specs.Laws.{replies, after_events, one, best_moves, is_best_move, is_go, is_quit, says, running, is_taken, taken, unfinished}

-- the best moves replied, and the search that runs afterwards
abbrev both : Step → ℕ
both t = best_moves t.0 + running t.1

go_both : (legal : List MoveParts) (infinite : Bool) (x : Search) (s : State) → s.search ≡ None → both (go_among legal infinite x s) ≡ 1
go_both [] false x s e = rw e refl
go_both [] true x s e = refl
go_both (m ∷ ms) infinite x s e = refl

placed_both : (l : Option GameLine) (s : State) → s.search ≡ None → both (placed_at l s) ≡ 0
placed_both None s e = rw e refl
placed_both (Some l) s e = rw e refl

claims_both : (c : Option Bool) (s : State) → s.search ≡ None → both (set_claims c s) ≡ 0
claims_both None s e = rw e refl
claims_both (Some c) s e = rw e refl

idle_both : (s : State) (c : Command) → s.search ≡ None → is_quit c ≡ false → both (idle_command s c) ≡ one (is_go c)
idle_both s (Position words) e q = placed_both (placed words) s e
idle_both s (Go words) e q = go_both (legal_moves (last s.line)) (fields words).infinite (begun s words) s e
idle_both s Quit e q = cc
idle_both s (SetOption words) e q = claims_both (claims_set words) s e
idle_both s _ e q = rw e refl

busy_both : (x : Search) (s : State) (c : Command) → s.search ≡ Some x → is_quit c ≡ false → both (busy_command x s c) ≡ 1
busy_both x s Stop e q = refl
busy_both x s Quit e q = cc
busy_both x s _ e q = rw e refl

-- the same of a turn
abbrev turn_both : Turn → ℕ
turn_both t = best_moves t.0 + one (is_some t.1)

-- what is reported of a depth is no best move
pub no_best_move : (depth : ℕ) (found : Option (MoveParts × ℤ)) → best_moves (info depth found) ≡ 0
no_best_move depth None = refl
no_best_move depth (Some m) = refl

pub one_best_move : (depth : ℕ) (found : Option (MoveParts × ℤ)) (m : Option MoveParts) → best_moves (info depth found ++ BestMove m ∷ []) ≡ 1
one_best_move depth None m = refl
one_best_move depth (Some b) m = refl

-- a slice
row_both : (left last_root last_depth infinite : Bool) (l : GameLine) (x : Search) → turn_both (slice_row left last_root last_depth infinite l x) ≡ 1
row_both false _ _ _ l x = refl
row_both true false _ _ l x = refl
row_both true true false _ l x = ap (λ n. n + 1) (no_best_move x.depth (depth_best l x))
row_both true true true true l x = ap (λ n. n + 1) (no_best_move x.depth (depth_best l x))
row_both true true true false l x = ap (λ n. n + 0) (one_best_move x.depth (depth_best l x) (chosen (depth_best l x) x.roots))

end_both : (reached : Bool) (x : Search) → turn_both (end_if reached x) ≡ 1
end_both false x = refl
end_both true x = refl

-- any event but `quit`, by the search that runs
line_both : (s : State) (x : Option Search) (c : Command) → s.search ≡ x → is_quit c ≡ false →
    both (line_step s x c) ≡ one (is_taken false (is_some x) (is_go c)) + one (is_some x)
line_both s None c e q = idle_both s c e q ∙ sym (add-zero (one (is_go c)))
line_both s (Some x) c e q = busy_both x s c e q

slice_step_both : (s : State) (x : Option Search) → s.search ≡ x →
    both (slice_step x s) ≡ one (is_taken false (is_some x) false) + one (is_some x)
slice_step_both s None e = rw e refl
slice_step_both s (Some x) e = row_both (nat_lt x.searched (length x.roots)) (x.searched + 1 == length x.roots) (x.depth == x.last) x.infinite s.line x

moment_step_both : (s : State) (x : Option Search) → s.search ≡ x →
    both (moment_step x s) ≡ one (is_taken false (is_some x) false) + one (is_some x)
moment_step_both s None e = rw e refl
moment_step_both s (Some x) e = end_both (is_reached x.end s.moment) x

live_both : (s : State) (event : Event) → says is_quit event ≡ false →
    both (live_step s event) ≡ one (is_taken false (is_some s.search) (says is_go event)) + running s
live_both s (Line bytes) q = line_both s s.search (command_in bytes) refl q
live_both s (Starved bytes) q = line_both s s.search (without_memory (command_in bytes)) refl q
live_both s Slice q = slice_step_both s s.search refl
live_both s (Moment moment) q = moment_step_both (record s { moment = max s.moment moment }) s.search refl

step_if_both : (ended : Bool) (s : State) (event : Event) → says is_quit event ≡ false →
    both (step_if ended s event) ≡ one (is_taken ended (is_some s.search) (says is_go event)) + running s
step_if_both true s event q = refl
step_if_both false s event q = live_both s event q

pub step_both : (s : State) (event : Event) → says is_quit event ≡ false →
    best_moves (step s event).0 + running (step s event).1 ≡ one (is_taken s.ended (is_some s.search) (says is_go event)) + running s
step_both s event q = step_if_both s.ended s event q

-- `quit` is replied nothing
live_quit : (s : State) (x : Option Search) (c : Command) → is_quit c ≡ true → line_step s x c ≡ ([], record s { ended = true; search = None })
live_quit s None Quit q = refl
live_quit s (Some x) Quit q = refl
live_quit s _ _ q = cc

live_step_quit : (s : State) (event : Event) → says is_quit event ≡ true → live_step s event ≡ ([], record s { ended = true; search = None })
live_step_quit s (Line bytes) q = live_quit s s.search (command_in bytes) q
live_step_quit s (Starved bytes) q = live_quit s s.search (without_memory (command_in bytes)) q
live_step_quit s Slice q = cc
live_step_quit s (Moment moment) q = cc

pub step_live : (s : State) (event : Event) → s.ended ≡ false → step s event ≡ live_step s event
step_live s event live = ap (λ b. step_if b s event) live

pub step_quit : (s : State) (event : Event) → s.ended ≡ false → says is_quit event ≡ true → step s event ≡ ([], record s { ended = true; search = None })
step_quit s event live q = step_live s event live ∙ live_step_quit s event q

-- after the end nothing happens
pub step_ended : (s : State) (event : Event) → s.ended ≡ true → step s event ≡ ([], s)
step_ended s event end = ap (λ b. step_if b s event) end

pub replies-ended : (s : State) (events : List Event) → s.ended ≡ true → replies s events ≡ []
replies-ended s [] end = refl
replies-ended s (event ∷ events) end =
    ap (λ (t : Step). t.0 ++ replies t.1 events) (step_ended s event end) ∙ replies-ended s events end

pub after-ended : (s : State) (events : List Event) → s.ended ≡ true → after_events s events ≡ s
after-ended s [] end = refl
after-ended s (event ∷ events) end = ap (λ (t : Step). after_events t.1 events) (step_ended s event end) ∙ after-ended s events end

one_of_ended : (b c : Bool) → one (is_taken true b c) ≡ 0
one_of_ended b c = refl

taken-ended : (s : State) (events : List Event) → s.ended ≡ true → taken s events ≡ 0
taken-ended s [] end = refl
taken-ended s (event ∷ events) end =
    let rest : taken (step s event).1 events ≡ 0 = ap (λ (t : Step). taken t.1 events) (step_ended s event end) ∙ taken-ended s events end in
    let here : one (is_taken s.ended (is_some s.search) (says is_go event)) ≡ 0 = ap (λ b. one (is_taken b (is_some s.search) (says is_go event))) end in
    omega (arith, rest, here)

by_quit : (quit : Bool) (n m : ℕ) → m ≡ n → cond quit n m ≡ n
by_quit true n m e = refl
by_quit false n m e = e

unfinished-ended : (s : State) (events : List Event) → s.ended ≡ true → unfinished s events ≡ running s
unfinished-ended s [] end = refl
unfinished-ended s (event ∷ events) end =
    by_quit (says is_quit event) (running s) _
    (ap (λ (t : Step). unfinished t.1 events) (step_ended s event end) ∙ unfinished-ended s events end)

-- the count over the rest, from the count at an event
joined : (quit : Bool) (first rest search old_search taken_here taken_rest unfinished_rest : ℕ) →
    (quit ≡ false → first + search ≡ taken_here + old_search) → rest + unfinished_rest ≡ taken_rest + search →
    (quit ≡ true → (first ≡ 0) × (rest ≡ 0) × (taken_here ≡ 0) × (taken_rest ≡ 0)) →
    (first + rest) + cond quit old_search unfinished_rest ≡ (taken_here + taken_rest) + old_search
joined true first rest search old_search taken_here taken_rest unfinished_rest here later none = let h = none refl in omega (arith, h.0, h.1, h.2, h.3)
joined false first rest search old_search taken_here taken_rest unfinished_rest here later none = omega (arith, here refl)

no_quit_is_go : (c : Command) → is_quit c ≡ true → is_go c ≡ false
no_quit_is_go Quit q = refl
no_quit_is_go _ q = cc

not_go : (event : Event) → says is_quit event ≡ true → says is_go event ≡ false
not_go (Line bytes) q = no_quit_is_go (command_in bytes) q
not_go (Starved bytes) q = no_quit_is_go (without_memory (command_in bytes)) q
not_go Slice q = refl
not_go (Moment moment) q = refl

nothing_taken : (ended searching go : Bool) → go ≡ false → one (is_taken ended searching go) ≡ 0
nothing_taken true searching go e = refl
nothing_taken false true go e = refl
nothing_taken false false go e = rw e refl

pub counted : (ended : Bool) (s : State) (events : List Event) → s.ended ≡ ended →
    best_moves (replies s events) + unfinished s events ≡ taken s events + running s
counted true s events end =
    rw (replies-ended s events end, taken-ended s events end, unfinished-ended s events end) refl
counted false s [] live = refl
counted false s (event ∷ events) live =
    let t : Step = step s event in
    let later : best_moves (replies t.1 events) + unfinished t.1 events ≡ taken t.1 events + running t.1 = counted t.1.ended t.1 events refl in
    let parts : best_moves (t.0 ++ replies t.1 events) ≡ best_moves t.0 + best_moves (replies t.1 events) = sum_by-append (λ (x : Reply). cond (is_best_move x) 1 0) t.0 (replies t.1 events) in
    let at_quit : says is_quit event ≡ true → (best_moves t.0 ≡ 0) × (best_moves (replies t.1 events) ≡ 0) × (one (is_taken s.ended (is_some s.search) (says is_go event)) ≡ 0) × (taken t.1 events ≡ 0) =
    λ q. let is : t ≡ ([], record s { ended = true; search = None }) = step_quit s event live q in
    let over : t.1.ended ≡ true = ap (λ (u : Step). u.1.ended) is in
    (ap (λ (u : Step). best_moves u.0) is, ap best_moves (replies-ended t.1 events over), nothing_taken s.ended (is_some s.search) (says is_go event) (not_go event q), taken-ended t.1 events over) in
    ap (λ n. n + cond (says is_quit event) (running s) (unfinished t.1 events)) parts
    ∙ joined (says is_quit event) (best_moves t.0) (best_moves (replies t.1 events)) (running t.1) (running s) (one (is_taken s.ended (is_some s.search) (says is_go event))) (taken t.1 events) (unfinished t.1 events)
    (step_both s event) later at_quit
