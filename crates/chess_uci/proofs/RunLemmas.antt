-- Runs over lists of events.
use Rattle.std.proofs.Common.{◌≡◌, ℕ, Bool, true, false, List, [], ◌∷◌, ◌++◌, Option, Some, None, refl, sym, ap, ◌∙◌, append_assoc, append-nil, arith}
use Rattle.chess_uci.specs.declared.reply.Reply.{Reply}
use Rattle.chess_uci.specs.declared.reply.Reply.TheVariants.{ReadyOk}
use Rattle.chess_uci.specs.Commands.{IsReady, Quit, command_in}
use Rattle.chess_uci.specs.Machine.{Event, Line, Search, State, Step, step, line_step, beginning}
use Rattle.chess_uci.specs.Laws.{replies, after_events, is_quit, says, AnswersEachGo, AnswersAtTheEnd, IsReadyAlone, SilentAfterQuit}
use Rattle.chess_uci.proofs.CountLemmas.{step_live, step_quit, replies-ended, counted}
use Rattle.chess_uci.proofs.CauseLemmas.{step_cause}

pub replies-append : (s : State) (xs ys : List Event) → replies s (xs ++ ys) ≡ replies s xs ++ replies (after_events s xs) ys
replies-append s [] ys = refl
replies-append s (x ∷ xs) ys =
    let t = step s x in
    ap (λ (rs : List Reply). t.0 ++ rs) (replies-append t.1 xs ys) ∙ sym (append_assoc t.0 (replies t.1 xs) (replies (after_events t.1 xs) ys))

pub after-append : (s : State) (xs ys : List Event) → after_events s (xs ++ ys) ≡ after_events (after_events s xs) ys
after-append s [] ys = refl
after-append s (x ∷ xs) ys = after-append (step s x).1 xs ys

line_ready : (s : State) (x : Option Search) → line_step s x IsReady ≡ (ReadyOk ∷ [], s)
line_ready s None = refl
line_ready s (Some x) = refl

pub step_ready : (s : State) (line : List ℕ) → command_in line ≡ IsReady → s.ended ≡ false → step s (Line line) ≡ (ReadyOk ∷ [], s)
step_ready s line is live = step_live s (Line line) live ∙ ap (line_step s s.search) is ∙ line_ready s s.search

pub ready_alone : IsReadyAlone
ready_alone before later line is live =
    let s = after_events beginning before in
    let at : step s (Line line) ≡ (ReadyOk ∷ [], s) = step_ready s line is live in (
      replies-append beginning before (Line line ∷ later) ∙ ap (λ (t : Step). replies beginning before ++ (t.0 ++ replies t.1 later)) at,
      replies-append beginning before later,
      after-append beginning before (Line line ∷ later) ∙ ap (λ (t : Step). after_events t.1 later) at ∙ sym (after-append beginning before later),
    )

quit_said : (line : List ℕ) → command_in line ≡ Quit → says is_quit (Line line) ≡ true
quit_said line is = ap is_quit is

silent : (s : State) (ended : Bool) (line : List ℕ) (later : List Event) → s.ended ≡ ended → command_in line ≡ Quit → replies s (Line line ∷ later) ≡ []
silent s true line later end is = replies-ended s (Line line ∷ later) end
silent s false line later live is =
    let at : step s (Line line) ≡ ([], record s { ended = true; search = None }) = step_quit s (Line line) live (quit_said line is) in
    ap (λ (t : Step). t.0 ++ replies t.1 later) at ∙ replies-ended (record s { ended = true; search = None }) later refl

pub silent_after_quit : SilentAfterQuit
silent_after_quit before later line is =
    let s = after_events beginning before in
    replies-append beginning before (Line line ∷ later)
    ∙ ap (λ (rs : List Reply). replies beginning before ++ rs) (silent s s.ended line later refl is)
    ∙ append-nil (replies beginning before)

pub answers_at_the_end : AnswersAtTheEnd
answers_at_the_end events event live = step_cause (after_events beginning events) event live

pub answers_each_go : AnswersEachGo
answers_each_go events = omega (arith, counted false beginning events refl)
