-- The events of a line, one after another.
use Rattle.std.proofs.Common.{◌≡◌, ℕ, ◌+◌, ◌<◌, true, List, [], ◌∷◌, ◌++◌, length, take, get_or, refl, sym, ap, ◌∙◌, subst, append_assoc, append-nil, length-append}
use Rattle.std.proofs.lemmas.List.{take_more}
use Rattle.chess_uci.specs.declared.reply.Reply.{Reply}
use Rattle.chess_uci.specs.Replies.{reply_text}
use Rattle.chess_uci.specs.Machine.{Event, Slice, Moment, State, step}
use Rattle.chess_uci.specs.Laws.{replies, after_events}
use Rattle.chess_uci.specs.Events.{Does}
use Rattle.chess_uci.proofs.RunLemmas.{after-append}
use Rattle.chess_cli.specs.TimedSessions.{AnsweredSoFar, IsLineEvent, Readings, WasFed, events_of, is_fed, parts_of, reply_lines, slice_parts, slices_of}

pub reply_lines-append : (xs ys : List Reply) → reply_lines (xs ++ ys) ≡ reply_lines xs ++ reply_lines ys
reply_lines-append [] ys = refl
reply_lines-append (x ∷ xs) ys =
    ap (λ (t : List ℕ). (reply_text x ++ 10 ∷ []) ++ t) (reply_lines-append xs ys) ∙ sym (append_assoc (reply_text x ++ 10 ∷ []) (reply_lines xs) (reply_lines ys))

Readings-append : {C : Type 0} (reads : C → ℕ → C → Type 0) (c m d : C) (xs ys : List ℕ) → Readings reads c xs m → Readings reads m ys d → Readings reads c (xs ++ ys) d
Readings-append reads c m d [] ys first second = subst (λ x. Readings reads x ys d) (sym first) second
Readings-append reads c m d (x ∷ xs) ys first second = (first.0, first.1, Readings-append reads first.0 m d xs ys first.2 second)

slices_of-append : (xs ys : List ℕ) → slices_of (xs ++ ys) ≡ slices_of xs ++ slices_of ys
slices_of-append [] ys = refl
slices_of-append (x ∷ xs) ys = ap (λ (es : List Event). Slice ∷ Moment x ∷ es) (slices_of-append xs ys)

-- one reading more
fed_more : (s : State) (later : List ℕ) (moment : ℕ) → WasFed s later → is_fed (after_events s (slices_of later)) ≡ true → WasFed s (later ++ moment ∷ [])
fed_more s [] moment was here = (here, tt)
fed_more s (x ∷ xs) moment was here = (was.0, fed_more (after_events s (Slice ∷ Moment x ∷ [])) xs moment was.1 here)

-- a run with one event more
state_more : (s t u : State) (events : List Event) (event : Event) (more : List Reply) → t ≡ after_events s events → Does (step t event) more u → u ≡ after_events s (events ++ event ∷ [])
state_more s t u events event more f does = does.1 ∙ ap (λ (x : State). (step x event).1) f ∙ sym (after-append s events (event ∷ []))

-- two events, one after the other
two_replies : (s t u : State) (one two : Event) (a b : List Reply) → Does (step s one) a t → Does (step t two) b u → a ++ b ≡ replies s (one ∷ two ∷ [])
two_replies s t u one two a b x y =
    let z = (step (step s one).1 two).0 in
    ap (λ (rs : List Reply). rs ++ b) x.0 ∙ ap (λ (rs : List Reply). (step s one).0 ++ rs) (y.0 ∙ ap (λ (q : State). (step q two).0) x.1 ∙ sym (append-nil z))

events_more : (first : ℕ) (event : Event) (later : List ℕ) (moment : ℕ) → (events_of first event later ++ Slice ∷ []) ++ Moment moment ∷ [] ≡ events_of first event (later ++ moment ∷ [])
events_more first event later moment =
    ap (λ (es : List Event). Moment first ∷ event ∷ es) (append_assoc (slices_of later) (Slice ∷ []) (Moment moment ∷ []) ∙ sym (slices_of-append later (moment ∷ [])))

-- what a slice and a moment more are replied
slice_parts-more : (s : State) (later : List ℕ) (moment : ℕ) →
    slice_parts s (later ++ moment ∷ []) ≡ slice_parts s later ++ reply_lines (replies (after_events s (slices_of later)) (Slice ∷ Moment moment ∷ [])) ∷ []
slice_parts-more s [] moment = refl
slice_parts-more s (x ∷ xs) moment =
    ap (λ (parts : List (List ℕ)). reply_lines (replies s (Slice ∷ Moment x ∷ [])) ∷ parts) (slice_parts-more (after_events s (Slice ∷ Moment x ∷ [])) xs moment)

module _ {C : Type 0} (reads : C → ℕ → C → Type 0) (line : List ℕ) where
  -- a line's first moment, and the line itself
  pub answering_starts : (s t u : State) (c d : C) (first : ℕ) (event : Event) (a b : List Reply) →
      reads c first d → Does (step s (Moment first)) a t → IsLineEvent line event → Does (step t event) b u → AnsweredSoFar reads s c line (reply_lines (a ++ b) ∷ []) u d
  answering_starts s t u c d first event a b read one is two = record {
    first = first;
    event = event;
    later = [];
    is_line = is;
    clock = (d, read, refl);
    replied = ap (λ (rs : List Reply). reply_lines rs ∷ []) (two_replies s t u (Moment first) event a b one two);
    state = state_more s t u (Moment first ∷ []) event b (state_more s s t [] (Moment first) a refl one) two;
    each = tt;
  }

  -- a slice and a moment more
  pub answering_goes_on : (s t u v : State) (c d e : C) (parts : List (List ℕ)) (a b : List Reply) (moment : ℕ) → AnsweredSoFar reads s c line parts t d → is_fed t ≡ true →
      Does (step t Slice) a u → reads d moment e → Does (step u (Moment moment)) b v → AnsweredSoFar reads s c line (parts ++ reply_lines (a ++ b) ∷ []) v e
  answering_goes_on s t u v c d e parts a b moment x here one read two =
      let events = events_of x.first x.event x.later in
      let begun = after_events s (Moment x.first ∷ x.event ∷ []) in
      let sliced = state_more s t u events Slice a x.state one in
      let then = state_more s u v (events ++ Slice ∷ []) (Moment moment) b sliced two in
      let told : a ++ b ≡ replies (after_events s events) (Slice ∷ Moment moment ∷ []) =
      two_replies t u v Slice (Moment moment) a b one two ∙ ap (λ (q : State). replies q (Slice ∷ Moment moment ∷ [])) x.state in
      record {
        first = x.first;
        event = x.event;
        later = x.later ++ moment ∷ [];
        is_line = x.is_line;
        clock = Readings-append reads c d e (x.first ∷ x.later) (moment ∷ []) x.clock (e, read, refl);
        replied = ap (λ (ps : List (List ℕ)). ps ++ reply_lines (a ++ b) ∷ []) x.replied
            ∙ ap (λ (rs : List Reply). parts_of s x.first x.event x.later ++ reply_lines rs ∷ []) told
            ∙ ap (λ (ps : List (List ℕ)). reply_lines (replies s (Moment x.first ∷ x.event ∷ [])) ∷ ps) (sym (slice_parts-more begun x.later moment));
        state = then ∙ ap (after_events s) (events_more x.first x.event x.later moment);
        each = fed_more begun x.later moment x.each (ap (λ (y : State). is_fed y) (sym x.state) ∙ here);
      }

-- one reply more on the page
replies_on : (page page1 page2 : List ℕ) (rs : List Reply) (i : ℕ) (r : Reply) → i < length rs → r ≡ get_or rs i r → page1 ≡ page ++ reply_lines (take i rs)
    → page2 ≡ page1 ++ (reply_text r ++ 10 ∷ []) → page2 ≡ page ++ reply_lines (take (i + 1) rs)
replies_on page page1 page2 rs i r within is so_far put =
    let more : reply_lines (take (i + 1) rs) ≡ reply_lines (take i rs) ++ (reply_text r ++ 10 ∷ []) =
    ap reply_lines (take_more rs i r within) ∙ reply_lines-append (take i rs) (get_or rs i r ∷ [])
    ∙ ap (λ (x : Reply). reply_lines (take i rs) ++ ((reply_text x ++ 10 ∷ []) ++ [])) (sym is)
    ∙ ap (λ (t : List ℕ). reply_lines (take i rs) ++ t) (append-nil (reply_text r ++ 10 ∷ [])) in
    put ∙ ap (λ (t : List ℕ). t ++ (reply_text r ++ 10 ∷ [])) so_far ∙ append_assoc page (reply_lines (take i rs)) (reply_text r ++ 10 ∷ [])
    ∙ ap (λ (t : List ℕ). page ++ t) (sym more)

pub reply_put : (page page1 page2 said : List ℕ) (rs : List Reply) (i : ℕ) (r : Reply) → i < length rs → r ≡ get_or rs i r → page1 ≡ page ++ reply_lines (take i rs) → said ≡ reply_text r →
    page2 ≡ page1 ++ (said ++ 10 ∷ []) → (page2 ≡ page ++ reply_lines (take (i + 1) rs)) × (length page2 ≡ length page1 + (length said + 1))
reply_put page page1 page2 said rs i r within is so_far text put = (
  replies_on page page1 page2 rs i r within is so_far (put ∙ ap (λ (t : List ℕ). page1 ++ (t ++ 10 ∷ [])) text),
  ap length put ∙ length-append page1 (said ++ 10 ∷ []) ∙ ap (λ (n : ℕ). length page1 + n) (length-append said (10 ∷ [])),
)
