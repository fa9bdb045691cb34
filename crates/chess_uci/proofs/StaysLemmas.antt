-- While a search runs, its line, its roots, its last depth and its end stay.
use Rattle.std.proofs.Common.{◌≡◌, ◌+◌, ◌==◌, max, Bool, true, false, length, Option, Some, refl, sym, subst}
use Rattle.std.specs.Prelude.{nat_lt}
use Rattle.chess_types.specs.board.Lines.{Line as GameLine}
use Rattle.chess_uci.specs.Commands.{Command, Stop, Quit, command_in, without_memory}
use Rattle.chess_uci.specs.Machine.{Event, Line, Starved, Slice, Moment, Search, State, Step, beginning, step_if, live_step, line_step, busy_command, slice_step, slice_row, moment_step, end_if, is_reached}
use Rattle.chess_uci.specs.Laws.{after_events, KeepsSearching, SearchStays}

here : (s : State) (x : Search) → s.search ≡ Some x → KeepsSearching s.line x s.line s.search
here s x e = subst (KeepsSearching s.line x s.line) (sym e) (refl, refl, refl, refl, refl, refl)

busy_stays : (s : State) (x : Search) (c : Command) → s.search ≡ Some x → KeepsSearching s.line x (busy_command x s c).1.line (busy_command x s c).1.search
busy_stays s x Stop e = tt
busy_stays s x Quit e = tt
busy_stays s x _ e = here s x e

row_stays : (l : GameLine) (left last_root last_depth infinite : Bool) (x : Search) → KeepsSearching l x l (slice_row left last_root last_depth infinite l x).1
row_stays l true true true false x = tt
row_stays l false _ _ _ x = (refl, refl, refl, refl, refl, refl)
row_stays l true false _ _ x = (refl, refl, refl, refl, refl, refl)
row_stays l true true false _ x = (refl, refl, refl, refl, refl, refl)
row_stays l true true true true x = (refl, refl, refl, refl, refl, refl)

end_stays : (l : GameLine) (reached : Bool) (x : Search) → KeepsSearching l x l (end_if reached x).1
end_stays l false x = (refl, refl, refl, refl, refl, refl)
end_stays l true x = tt

abbrev Stays : State → Search → Step → Type 0
Stays s x t = KeepsSearching s.line x t.1.line t.1.search

live_stays : (s : State) (event : Event) (x : Search) → s.search ≡ Some x → Stays s x (live_step s event)
live_stays s (Line bytes) x e = subst (λ (y : Option Search). Stays s x (line_step s y (command_in bytes))) (sym e) (busy_stays s x (command_in bytes) e)
live_stays s (Starved bytes) x e = subst (λ (y : Option Search). Stays s x (line_step s y (without_memory (command_in bytes)))) (sym e) (busy_stays s x (without_memory (command_in bytes)) e)
live_stays s Slice x e = subst (λ (y : Option Search). Stays s x (slice_step y s)) (sym e) (row_stays s.line (nat_lt x.searched (length x.roots)) (x.searched + 1 == length x.roots) (x.depth == x.last) x.infinite x)
live_stays s (Moment moment) x e =
    let t : State = record s { moment = max s.moment moment } in
    subst (λ (y : Option Search). Stays s x (moment_step y t)) (sym e) (end_stays s.line (is_reached x.end t.moment) x)

step_if_stays : (ended : Bool) (s : State) (event : Event) (x : Search) → s.search ≡ Some x → Stays s x (step_if ended s event)
step_if_stays true s event x e = here s x e
step_if_stays false s event x e = live_stays s event x e

pub search_stays : SearchStays
search_stays events event x e =
    let s = after_events beginning events in
    step_if_stays s.ended s event x e
