-- A lender of a clock reads as its owner's clock does, and keeps that clock.
use Rattle.std.proofs.Common.{◌≡◌, ℕ, inl, inr, List, [], ◌∷◌, refl, sym, ap, ◌∙◌}
use Rattle.byte_streams.specs.declared.source.Source.{Ghosts as Source}
use Rattle.byte_streams.specs.declared.sink.Sink.{Ghosts as Sink}
use Rattle.chess_cli.specs.Endings.{TimedSessionEnds, session}
use Rattle.chess_cli.specs.TimedSessions.{Answered, AnsweredInPart, AnsweredSoFar, Readings}
use Rattle.chess_cli.specs.declared.ended.Ended.{Ended}
use Rattle.chess_cli.specs.declared.ended.Ended.TheVariants.{Good, Input, ReadFault, WriteFault, Memory}
use Rattle.chess_cli.specs.declared.uci_command.timed_session.TimedSession.{TimedSession}
use Rattle.chess_loop.specs.RunEnds.{EndsGood, EndsOver, EndsReadFault, EndsWriteFault, UpToLast, most_reads}
use Rattle.chess_loop.specs.Runs.{BrokenOff, Counted, Partly, Runs, Whole}

-- ---- lines answered, seen by a function of the state

module _ {S T : Type 0} (f : S → T) where
  runs_seen : (step : S → List ℕ → List ℕ → S → Type 0) (other : T → List ℕ → List ℕ → T → Type 0)
      → ((s : S) (line text : List ℕ) (t : S) → step s line text t → other (f s) line text (f t))
      → (old : S) (lines : List (List ℕ)) (text : List ℕ) (new : S) → Runs step old lines text new → Runs other (f old) lines text (f new)
  runs_seen step other on old [] text new r = (r.0, ap f r.1)
  runs_seen step other on old (line ∷ lines) text new r =
      (r.0, r.1, f r.2, on old line r.0 r.2 r.3, runs_seen step other on r.2 lines r.1 new r.4, r.5)

module _ {S T : Type 0} (f : S → T) where
  abbrev counted : S × ℕ → T × ℕ
  counted s = (f s.0, s.1)

  module _ (step cut : S → List ℕ → List (List ℕ) → S → Type 0) (step' cut' : T → List ℕ → List (List ℕ) → T → Type 0)
      (on : (s : S) (line : List ℕ) (parts : List (List ℕ)) (t : S) → step s line parts t → step' (f s) line parts (f t))
      (off : (s : S) (line : List ℕ) (parts : List (List ℕ)) (t : S) → cut s line parts t → cut' (f s) line parts (f t)) where
    pub whole_seen : (old : S) (lines : List (List ℕ)) (text : List ℕ) (new : S) → Runs (Whole step) old lines text new → Runs (Whole step') (f old) lines text (f new)
    whole_seen = runs_seen f (Whole step) (Whole step') (λ s line text t w. (w.0, on s line w.0 t w.1, w.2))

    counted_seen : (old : S × ℕ) (lines : List (List ℕ)) (text : List ℕ) (new : S × ℕ) → Runs (Counted step) old lines text new → Runs (Counted step') (counted old) lines text (counted new)
    counted_seen = runs_seen counted (Counted step) (Counted step') (λ s line text t w. (w.0, on s.0 line w.0 t.0 w.1, w.2, w.3))

    broken_seen : (old : S) (lines : List (List ℕ)) (text : List ℕ) (new : S × ℕ) → BrokenOff step cut old lines text new → BrokenOff step' cut' (f old) lines text (counted new)
    broken_seen old lines text new b = record {
      done = b.done;
      line = b.line;
      answers = b.answers;
      begun = b.begun;
      state = counted b.state;
      runs = counted_seen (old, 0) b.done b.answers b.state b.runs;
      last = (b.last.0, off b.state.0 b.line b.last.0 new.0 b.last.1, b.last.2, b.last.3);
      lines_are = b.lines_are;
      text_is = b.text_is;
    }

    pub partly_seen : (old : S) (lines : List (List ℕ)) (text rest : List ℕ) (new : S) → Partly step cut old lines text rest new → Partly step' cut' (f old) lines text rest (f new)
    partly_seen old lines text rest new p = (
      p.0,
      p.1,
      elim p.2 [
        | inl r ↦ inl (counted_seen (old, 0) lines text (new, p.0) r)
        | inr b ↦ inr (broken_seen old lines text (new, p.0) b)
      ],
    )

-- ---- what stays

module _ {N : Type 0} where
  abbrev Stays : N → List ℕ → List (List ℕ) → N → Type 0
  Stays a line parts b = b ≡ a

  whole_stays : (old : N) (lines : List (List ℕ)) (text : List ℕ) (new : N) → Runs (Whole Stays) old lines text new → new ≡ old
  whole_stays old [] text new r = r.1
  whole_stays old (line ∷ lines) text new r = whole_stays r.2 lines r.1 new r.4 ∙ r.3.1

  counted_stays : (old : N × ℕ) (lines : List (List ℕ)) (text : List ℕ) (new : N × ℕ) → Runs (Counted Stays) old lines text new → new.0 ≡ old.0
  counted_stays old [] text new r = ap (λ (p : N × ℕ). p.0) r.1
  counted_stays old (line ∷ lines) text new r = counted_stays r.2 lines r.1 new r.4 ∙ r.3.1

  partly_stays : (old : N) (lines : List (List ℕ)) (text rest : List ℕ) (new : N) → Partly Stays Stays old lines text rest new → new ≡ old
  partly_stays old lines text rest new p = elim p.2 [
    | inl r ↦ counted_stays (old, 0) lines text (new, p.0) r
    | inr b ↦ b.last.1 ∙ counted_stays (old, 0) b.done b.answers b.state b.runs
  ]

-- ---- a session with a lent clock

module _ {L C N : Type 0} (now : L → C) (name : L → N) (reads : C → ℕ → C → Type 0) where
  abbrev pub lent_reads : L → ℕ → L → Type 0
  lent_reads s moment t = (name t ≡ name s) × reads (now s) moment (now t)

  readings_now : (s : L) (moments : List ℕ) (t : L) → Readings lent_reads s moments t → Readings reads (now s) moments (now t)
  readings_now s [] t r = ap now r
  readings_now s (moment ∷ moments) t r = (now r.0, r.1.1, readings_now r.0 moments t r.2)

  readings_name : (s : L) (moments : List ℕ) (t : L) → Readings lent_reads s moments t → name t ≡ name s
  readings_name s [] t r = ap name (sym r)
  readings_name s (moment ∷ moments) t r = readings_name r.0 moments t r.2 ∙ r.1.0

  module _ {A : Type 0} where
    -- the session with its owner's clock
    abbrev pub owned : TimedSession A L → TimedSession A C
    owned s = record { session = s.session; clock = now s.clock }

    abbrev named : TimedSession A L → N
    named s = name s.clock

    so_far_now : (s t : TimedSession A L) (input : List ℕ) (parts : List (List ℕ)) → AnsweredSoFar lent_reads s.session s.clock input parts t.session t.clock
        → AnsweredSoFar reads s.session (now s.clock) input parts t.session (now t.clock)
    so_far_now s t input parts a = record {
      first = a.first;
      event = a.event;
      later = a.later;
      is_line = a.is_line;
      clock = readings_now s.clock (a.first ∷ a.later) t.clock a.clock;
      replied = a.replied;
      state = a.state;
      each = a.each;
    }

    answered_now : (s : TimedSession A L) (input : List ℕ) (parts : List (List ℕ)) (t : TimedSession A L) → Answered lent_reads s input parts t → Answered reads (owned s) input parts (owned t)
    answered_now s input parts t a = (
      a.0,
      elim a.1 [
        | inl h ↦ inl (h.0, so_far_now s t input parts h.1, h.2)
        | inr (inl h) ↦ inr (inl (h.0, h.1, h.2, ap owned h.3))
        | inr (inr h) ↦ inr (inr (h.0, h.1, ap owned h.2))
      ],
    )

    in_part_now : (s : TimedSession A L) (input : List ℕ) (parts : List (List ℕ)) (t : TimedSession A L) → AnsweredInPart lent_reads s input parts t → AnsweredInPart reads (owned s) input parts (owned t)
    in_part_now s input parts t a = (a.0, a.1, so_far_now s t input parts a.2)

    answered_name : (s : TimedSession A L) (input : List ℕ) (parts : List (List ℕ)) (t : TimedSession A L) → Answered lent_reads s input parts t → named t ≡ named s
    answered_name s input parts t a = elim a.1 [
      | inl h ↦ readings_name s.clock (h.1.first ∷ h.1.later) t.clock h.1.clock
      | inr (inl h) ↦ ap named h.3
      | inr (inr h) ↦ ap named h.2
    ]

    in_part_name : (s : TimedSession A L) (input : List ℕ) (parts : List (List ℕ)) (t : TimedSession A L) → AnsweredInPart lent_reads s input parts t → named t ≡ named s
    in_part_name s input parts t a = readings_name s.clock (a.2.first ∷ a.2.later) t.clock a.2.clock

    whole_now : (s : TimedSession A L) (lines : List (List ℕ)) (text : List ℕ) (t : TimedSession A L) → Runs (Whole (Answered lent_reads)) s lines text t → Runs (Whole (Answered reads)) (owned s) lines text (owned t)
    whole_now = whole_seen owned (Answered lent_reads) (AnsweredInPart lent_reads) (Answered reads) (AnsweredInPart reads) answered_now in_part_now

    partly_now : (s : TimedSession A L) (lines : List (List ℕ)) (text rest : List ℕ) (t : TimedSession A L) → Partly (Answered lent_reads) (AnsweredInPart lent_reads) s lines text rest t
        → Partly (Answered reads) (AnsweredInPart reads) (owned s) lines text rest (owned t)
    partly_now = partly_seen owned (Answered lent_reads) (AnsweredInPart lent_reads) (Answered reads) (AnsweredInPart reads) answered_now in_part_now

    whole_name : (s : TimedSession A L) (lines : List (List ℕ)) (text : List ℕ) (t : TimedSession A L) → Runs (Whole (Answered lent_reads)) s lines text t → named t ≡ named s
    whole_name s lines text t r =
        whole_stays (named s) lines text (named t) (whole_seen named (Answered lent_reads) (AnsweredInPart lent_reads) Stays Stays answered_name in_part_name s lines text t r)

    partly_name : (s : TimedSession A L) (lines : List (List ℕ)) (text rest : List ℕ) (t : TimedSession A L) → Partly (Answered lent_reads) (AnsweredInPart lent_reads) s lines text rest t → named t ≡ named s
    partly_name s lines text rest t p =
        partly_stays (named s) lines text rest (named t) (partly_seen named (Answered lent_reads) (AnsweredInPart lent_reads) Stays Stays answered_name in_part_name s lines text rest t p)

    module _ {R W : Type 0} (source : Source R) (sink : Sink W) (s t : TimedSession A L) (r r' : R) (w w' : W) where
      earlier_now : UpToLast (session lent_reads s) source r r' → UpToLast (session reads (owned s)) source r r'
      earlier_now e = record {
        pieces = e.pieces;
        piece = e.piece;
        text = e.text;
        middle = owned e.middle;
        reads = e.reads;
        well_read = e.well_read;
        answers = whole_now s _ e.text e.middle e.answers;
        awake = e.awake;
      }

      good_now : EndsGood (session lent_reads s) source sink t r r' w w' → EndsGood (session reads (owned s)) source sink (owned t) r r' w w'
      good_now e = record {
        pieces = e.pieces;
        text = e.text;
        reads = e.reads;
        well_read = e.well_read;
        all = e.all;
        answers = whole_now s _ e.text t e.answers;
        awake = e.awake;
        writes = e.writes;
        well_written = e.well_written;
      }

      over_now : EndsOver (session lent_reads s) source sink t r r' w w' → EndsOver (session reads (owned s)) source sink (owned t) r r' w w'
      unfolding earlier_now
      over_now e = record {
        earlier = earlier_now e.earlier;
        lines = e.lines;
        more = e.more;
        prefix = e.prefix;
        answers_last = whole_now e.earlier.middle e.lines e.more t e.answers_last;
        is_over = e.is_over;
        writes = e.writes;
        well_written = e.well_written;
      }

      read_fault_now : EndsReadFault (session lent_reads s) source sink most_reads t r r' w w' → EndsReadFault (session reads (owned s)) source sink most_reads (owned t) r r' w w'
      read_fault_now e = record {
        pieces = e.pieces;
        text = e.text;
        before = e.before;
        reads = e.reads;
        well_read = e.well_read;
        each = e.each;
        cause = e.cause;
        answers = whole_now s _ e.text t e.answers;
        awake = e.awake;
        writes = e.writes;
        well_written = e.well_written;
      }

      write_fault_now : EndsWriteFault (session lent_reads s) source sink t r r' w w' → EndsWriteFault (session reads (owned s)) source sink (owned t) r r' w w'
      unfolding earlier_now
      write_fault_now e = record {
        earlier = earlier_now e.earlier;
        before = e.before;
        lines = e.lines;
        more = e.more;
        writes = e.writes;
        well_written = e.well_written;
        awaited = e.awaited;
        broken = e.broken;
        answers_last = partly_now e.earlier.middle e.lines e.more e.broken.rest t e.answers_last;
      }

      pub ends_owned : (result : Ended) → TimedSessionEnds source sink lent_reads s t result r r' w w' → TimedSessionEnds source sink reads (owned s) (owned t) result r r' w w'
      ends_owned result e = record {
        good = λ is. elim (e.good is) [
          | inl g ↦ inl (good_now g)
          | inr o ↦ inr (over_now o)
        ];
        read_fault = λ is. read_fault_now (e.read_fault is);
        write_fault = λ is. write_fault_now (e.write_fault is);
        memory = λ is. (let m = e.memory is in (ap owned m.0, m.1, m.2));
        input = e.input;
      }

      -- it keeps the clock of its owner
      pub still_lent : (result : Ended) → TimedSessionEnds source sink lent_reads s t result r r' w w' → named t ≡ named s
      still_lent Good e = elim (e.good refl) [
        | inl g ↦ whole_name s _ g.text t g.answers
        | inr o ↦ whole_name o.earlier.middle o.lines o.more t o.answers_last ∙ whole_name s _ o.earlier.text o.earlier.middle o.earlier.answers
      ]
      still_lent (Input fault) e = absurd (e.input fault refl)
      still_lent ReadFault e = (let f = e.read_fault refl in whole_name s _ f.text t f.answers)
      still_lent WriteFault e =
          let f = e.write_fault refl in
          partly_name f.earlier.middle f.lines f.more f.broken.rest t f.answers_last ∙ whole_name s _ f.earlier.text f.earlier.middle f.earlier.answers
      still_lent Memory e = ap named (e.memory refl).0
