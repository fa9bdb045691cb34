-- A line that is being answered by a session, in the code's words.
use Rattle.std.proofs.Common.{◌≡◌, ℕ, ◌<◌, ◌≤◌, Bool, Bor, true, false, ◌⊎◌, ⊎_elim, inl, inr, List, [], ◌∷◌, ◌++◌, length, refl, sym, ap, ◌∙◌, subst, append_assoc, arith, Ok, Err}
use Rattle.byte_streams.specs.Calls.{joined}
use Rattle.byte_streams.specs.declared.source.Failed.{Failed}
use Rattle.byte_streams.proofs.CallLemmas.{joined-more}
use Rattle.chess_uci.specs.declared.reply.Reply.{Reply}
use Rattle.chess_uci.specs.declared.event.Event.TheVariants.{Line as LineCode, Slice as SliceCode, Moment as MomentCode}
use Rattle.chess_uci.specs.Commands.{command_in}
use Rattle.chess_uci.specs.Machine.{AsksForMemory, Event, Line, Starved, State, step}
use Rattle.chess_uci.specs.Events.{Does, Follows}
use Rattle.chess_cli.specs.declared.uci_command.timed_session.TimedSession.{TimedSession}
use Rattle.chess_loop.specs.InputLines.{line_limit, line_room}
use Rattle.chess_cli.specs.TimedSessions.{Answered, AnsweredInPart, AnsweredSoFar, IsLineEvent, is_fed, no_memory_line, reply_lines, too_long_line}
use Rattle.chess_cli.specs.steps.Driving.{Happened}
use Rattle.chess_loop.specs.Runs.{unwritten}
use Rattle.chess_loop.specs.steps.Reads.{AnswersLine}
use Rattle.chess_loop.specs.steps.Sending.{Sent, SendsParts, Flows}
use Rattle.chess_cli.proofs.EventLemmas.{answering_goes_on, answering_starts, reply_lines-append}
use Rattle.chess_loop.proofs.SendingLemmas.{flows_broken, puts, sends_one, sent_more, unwritten_more}

-- only a line starves
pub same_event : {P : Type 0} → P ⊎ ⊥ → P
same_event h = ⊎_elim (λ p. p) (λ no. absurd no) h

line_event : (line : List ℕ) (b : Bor (List ℕ)) (t u : State) (told : List Reply) → b.now ≡ line → Follows t (LineCode b) told u → (event : Event) × IsLineEvent line event × Does (step t event) told u
line_event line b t u told e follows =
    ⊎_elim (λ (d : Does (step t (Line b.now)) told u). (Line b.now, inl (ap Line e), d))
    (λ (d : AsksForMemory (command_in b.now) × Does (step t (Starved b.now)) told u). (Starved b.now, inr (ap Starved e, subst (λ (l : List ℕ). AsksForMemory (command_in l)) e d.0), d.1)) follows

module _ {W : Type 0} (takes : W → List ℕ → W → Type 0) (failed : W → Bool) where
  -- after parts that are written comes one more, the only one on the page
  sends_more : (page page1 first part : List ℕ) (v x : W) (parts rest : List (List ℕ)) → parts ≡ first ∷ rest → Sent takes failed v (page ++ joined parts) [] x → page1 ≡ part
      → SendsParts takes failed {X = Unit {0}} {E = Failed} page v (parts ++ part ∷ []) page1 x (Ok tt)
  sends_more page page1 first part v x parts rest some sent alone =
      let whole : (page ++ joined parts) ++ part ≡ page ++ joined (parts ++ part ∷ []) =
      append_assoc page (joined parts) part ∙ ap (λ (t : List ℕ). page ++ t) (sym (joined-more takes parts part)) in
      let most : unwritten (length page) (parts ++ part ∷ []) ≡ length part =
      ap (λ (ps : List (List ℕ)). unwritten (length page) (ps ++ part ∷ [])) some ∙ unwritten_more (length page) first rest part in (
        rw alone (subst (λ (t : List ℕ). Sent takes failed v t part x) whole (sent_more takes failed v x (page ++ joined parts) [] part sent)),
        omega (arith, ap length alone, most),
      )

module _ {A C W : Type 0} (reads : C → ℕ → C → Type 0) (takes : W → List ℕ → W → Type 0) (failed : W → Bool) (line : List ℕ) where
  -- so far
  pub record Underway (s : TimedSession A C) (page : List ℕ) (v : W) (t : TimedSession A C) (page1 : List ℕ) (w : W) : Type 0 where
    pub parts : List (List ℕ)
    pub answered : AnsweredSoFar reads s.session s.clock line parts t.session t.clock
    pub sends : SendsParts takes failed {X = Unit {0}} {E = Failed} page v parts page1 w (Ok tt)

  pub begins : (b : Bor (List ℕ)) (s t u : TimedSession A C) (page page1 page2 : List ℕ) (v : W) (first : ℕ) → b.now ≡ line → reads s.clock first t.clock →
      Happened s.session (MomentCode first) t.session page page1 → Happened t.session (LineCode b) u.session page1 page2 → u.clock ≡ t.clock → Underway s page v u page2 v
  begins b s t u page page1 page2 v first e read one two same =
      let l = line_event line b t.session u.session two.0 e two.1 in
      let part = reply_lines (one.0 ++ two.0) in
      let stands : page2 ≡ page ++ part =
      two.2 ∙ ap (λ (x : List ℕ). x ++ reply_lines two.0) one.2 ∙ append_assoc page (reply_lines one.0) (reply_lines two.0)
      ∙ ap (λ (x : List ℕ). page ++ x) (sym (reply_lines-append one.0 two.0)) in
      record {
        parts = part ∷ [];
        answered = subst (λ c. AnsweredSoFar reads s.session s.clock line (part ∷ []) u.session c) (sym same)
            (answering_starts reads line s.session t.session u.session s.clock t.clock first l.0 one.0 two.0 read (same_event one.1) l.1 l.2);
        sends = sends_one takes failed v v page part page2 (Ok tt) (puts takes failed v page part page2 stands);
      }

  pub goes_on : (s t u y : TimedSession A C) (page page1 page2 page3 page4 : List ℕ) (v w x : W) (moment : ℕ) → Underway s page v t page1 w → is_fed t.session ≡ true →
      Flows takes failed {X = Unit {0}} {E = Failed} page1 w page2 x (Ok tt) → page2 ≡ [] → Happened t.session SliceCode u.session page2 page3 → u.clock ≡ t.clock → reads u.clock moment y.clock →
      Happened u.session (MomentCode moment) y.session page3 page4 → Underway s page v y page4 x
  goes_on s t u y page page1 page2 page3 page4 v w x moment so_far here flows empty one same read two =
      let part = reply_lines (one.0 ++ two.0) in
      let stands : page4 ≡ part =
      two.2 ∙ ap (λ (z : List ℕ). z ++ reply_lines two.0) (one.2 ∙ ap (λ (z : List ℕ). z ++ reply_lines one.0) empty) ∙ sym (reply_lines-append one.0 two.0) in
      record {
        parts = so_far.parts ++ part ∷ [];
        answered = answering_goes_on reads line s.session t.session u.session y.session s.clock t.clock y.clock so_far.parts one.0 two.0 moment so_far.answered here
            (same_event one.1) (subst (λ c. reads c moment y.clock) same read) (same_event two.1);
        sends = sends_more takes failed page page4 _ part v x so_far.parts _ so_far.answered.replied (rw empty at (flows v (page ++ joined so_far.parts) so_far.sends.0)) stands;
      }

  pub ends : (s t : TimedSession A C) (page page1 : List ℕ) (v w : W) → s.session.ended ≡ false → length line ≤ line_limit → Underway s page v t page1 w →
      is_fed t.session ≡ false → AnswersLine (Answered reads) (AnsweredInPart reads) takes failed {X = Unit {0}} {E = Failed} line s t page v page1 w (Ok tt)
  ends s t page page1 v w awake few so_far over =
      (so_far.parts, (awake, inl (few, so_far.answered, over)), so_far.sends)

  pub fails : (s t : TimedSession A C) (page page1 page2 : List ℕ) (v w x : W) (f : Failed) → s.session.ended ≡ false → length line ≤ line_limit → Underway s page v t page1 w →
      Flows takes failed {X = Unit {0}} {E = Failed} page1 w page2 x (Err f) →
      AnswersLine (Answered reads) (AnsweredInPart reads) takes failed {X = Unit {0}} {E = Failed} line s t page v page2 x (Err f)
  fails s t page page1 page2 v w x f awake few so_far flows =
      let broken = flows_broken takes failed v w x (page ++ joined so_far.parts) page1 page2 f so_far.sends.0 flows in
      (so_far.parts, (awake, few, so_far.answered), (broken.0, omega (arith, broken.1, so_far.sends.1)))

module _ {A C : Type 0} (reads : C → ℕ → C → Type 0) where
  -- one that found no memory
  pub answered_without_memory : (old : TimedSession A C) (bytes : List ℕ) → old.session.ended ≡ false → line_room < length bytes → length bytes ≤ line_limit → Answered reads old bytes (no_memory_line ∷ []) old
  answered_without_memory old bytes awake long few = (awake, inr (inl (few, long, refl, refl)))

  -- one over the limit is skipped
  pub answered_long : (old : TimedSession A C) (bytes : List ℕ) → old.session.ended ≡ false → line_limit < length bytes → Answered reads old bytes (too_long_line ∷ []) old
  answered_long old bytes awake over = (awake, inr (inr (over, refl, refl)))
