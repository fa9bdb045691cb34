-- Why an event is replied a best move.
use Rattle.std.proofs.Common.{◌≡◌, ℕ, ◌+◌, ◌==◌, max, Bool, true, false, true≢false, ◌&&◌, not, List, [], ◌∷◌, length, Option, Some, None, refl, ap, ◌∙◌, arith}
use Rattle.std.specs.Prelude.{nat_lt}
use Rattle.std.proofs.lemmas.Bool.Decides.{nat_tests}
use Rattle.chess_types.specs.board.MoveParts.{MoveParts}
use Rattle.chess_types.specs.board.Legal.{legal_moves}
use Rattle.chess_types.specs.board.Lines.{Line as GameLine, last}
use Rattle.chess_uci.specs.Placing.{placed}
use Rattle.chess_uci.specs.Commands.{Command, Idle, Position, Go, SetOption, command_in, without_memory, claims_set}
use Rattle.chess_uci.specs.Go.{fields}
use Rattle.chess_uci.specs.Machine.{Event, Line, Starved, Slice, Moment, Search, State, Step, step, live_step, line_step, idle_command, busy_command, go_among, placed_at, set_claims, slice_step, slice_row, depth_best, chosen, moment_step, end_if, is_reached, begun}
use Rattle.chess_uci.specs.Laws.{one, best_moves, cause, by_depth, by_time, by_line, by_command, at_once, is_stop}
use Rattle.chess_uci.proofs.CountLemmas.{no_best_move, one_best_move, step_live}

go_cause : (legal : List MoveParts) (infinite : Bool) (x : Search) (s : State) → best_moves (go_among legal infinite x s).0 ≡ one (at_once legal infinite)
go_cause [] false x s = refl
go_cause [] true x s = refl
go_cause (m ∷ ms) infinite x s = refl

placed_cause : (l : Option GameLine) (s : State) → best_moves (placed_at l s).0 ≡ 0
placed_cause None s = refl
placed_cause (Some l) s = refl

claims_cause : (c : Option Bool) (s : State) → best_moves (set_claims c s).0 ≡ 0
claims_cause None s = refl
claims_cause (Some c) s = refl

idle_cause : (s : State) (c : Command) → best_moves (idle_command s c).0 ≡ one (by_command s.line c)
idle_cause s (Position words) = placed_cause (placed words) s
idle_cause s (Go words) = go_cause (legal_moves (last s.line)) (fields words).infinite (begun s words) s
idle_cause s (SetOption words) = claims_cause (claims_set words) s
idle_cause s _ = refl

busy_cause : (x : Search) (s : State) (c : Command) → best_moves (busy_command x s c).0 ≡ one (is_stop c)
busy_cause x s Idle = refl
busy_cause x s _ = refl

line_cause : (s : State) (x : Option Search) (c : Command) → best_moves (line_step s x c).0 ≡ one (by_line s.line x c)
line_cause s None c = idle_cause s c
line_cause s (Some x) c = busy_cause x s c

none_left : (n m : ℕ) → nat_lt n m ≡ false → (n + 1 == m) ≡ false
none_left n m h = grind (arith, nat_tests)

row_cause : (left last_root last_depth infinite : Bool) (l : GameLine) (x : Search) → (left ≡ false → last_root ≡ false) →
    best_moves (slice_row left last_root last_depth infinite l x).0 ≡ one (last_root && last_depth && not infinite)
row_cause false false _ _ l x none = refl
row_cause false true _ _ l x none = absurd (true≢false (none refl))
row_cause true false _ _ l x none = refl
row_cause true true false _ l x none = no_best_move x.depth (depth_best l x)
row_cause true true true true l x none = no_best_move x.depth (depth_best l x)
row_cause true true true false l x none = one_best_move x.depth (depth_best l x) (chosen (depth_best l x) x.roots)

slice_step_cause : (s : State) (x : Option Search) → best_moves (slice_step x s).0 ≡ one (by_depth x)
slice_step_cause s None = refl
slice_step_cause s (Some x) =
    row_cause (nat_lt x.searched (length x.roots)) (x.searched + 1 == length x.roots) (x.depth == x.last) x.infinite s.line x (none_left x.searched (length x.roots))

end_cause : (reached : Bool) (x : Search) → best_moves (end_if reached x).0 ≡ one reached
end_cause false x = refl
end_cause true x = refl

moment_cause : (s : State) (x : Option Search) → best_moves (moment_step x s).0 ≡ one (by_time x s.moment)
moment_cause s None = refl
moment_cause s (Some x) = end_cause (is_reached x.end s.moment) x

live_cause : (s : State) (event : Event) → best_moves (live_step s event).0 ≡ one (cause s event)
live_cause s (Line bytes) = line_cause s s.search (command_in bytes)
live_cause s (Starved bytes) = line_cause s s.search (without_memory (command_in bytes))
live_cause s Slice = slice_step_cause s s.search
live_cause s (Moment moment) = moment_cause (record s { moment = max s.moment moment }) s.search

pub step_cause : (s : State) (event : Event) → s.ended ≡ false → best_moves (step s event).0 ≡ one (cause s event)
step_cause s event live = ap (λ (t : Step). best_moves t.0) (step_live s event live) ∙ live_cause s event
