-- A run goes on by reads, and ends.
use Rattle.std.proofs.Common.{◌≡◌, ℕ, ◌+◌, ◌<◌, ◌≤◌, ◌⊎◌, Bool, true, false, ◌||◌, true≢false, inl, inr, List, [], ◌∷◌, ◌++◌, length, length-append, Ok, Err, refl, sym, ap, ◌∙◌, append-nil, arith}
use Rattle.std.specs.List.{AllByRecursion}
use Rattle.byte_streams.specs.Calls.{Calls, Carries, joined}
use Rattle.byte_streams.specs.declared.source.Failed.{Failed}
use Rattle.byte_streams.specs.declared.source.Source.{Ghosts as Source}
use Rattle.byte_streams.specs.declared.sink.Sink.{Ghosts as Sink}
use Rattle.byte_streams.proofs.CallLemmas.{Calls-more, joined-more, Carries-append}
use Rattle.chess_loop.specs.RunEnds.{EndsGood, EndsOver, EndsWriteFault, Handler, LoopEnds, UpToLast, in_parts}
use Rattle.chess_loop.specs.declared.driver.RunEnd.TheVariants.{Good, WriteFault}
use Rattle.chess_loop.specs.InputLines.{ended_lines, line_buffer, last_line}
use Rattle.chess_loop.specs.Runs.{Runs, Whole}
use Rattle.chess_loop.specs.steps.Reads.{Holds, Feeds, Finishes}
use Rattle.chess_loop.specs.steps.LineSoFar.{LineSoFar}
use Rattle.chess_loop.proofs.LineLemmas.{ended_lines-append, line_buffer-append}
use Rattle.chess_loop.proofs.RunLemmas.{Runs-append, uncounted}
use Rattle.chess_loop.proofs.SendingLemmas.{sent_whole}

each_more : (pieces : List (List ℕ)) (piece : List ℕ) → AllByRecursion (λ p. 0 < length p) pieces → 0 < length piece → AllByRecursion (λ p. 0 < length p) (pieces ++ piece ∷ [])
each_more [] piece each some = (some, tt)
each_more (p ∷ pieces) piece each some = (each.0, each_more pieces piece each.1 some)

-- pieces of some bytes each have at least as many bytes as there are pieces
pub length-joined : (pieces : List (List ℕ)) → AllByRecursion (λ p. 0 < length p) pieces → length pieces ≤ length (joined pieces)
length-joined [] each = omega arith
length-joined (p ∷ pieces) each =
    let rest : length pieces ≤ length (joined pieces) = length-joined pieces each.1 in
    rw (length-append) (omega (arith, each.0))

-- So far each read gave some bytes, the lines that ended in them are answered and the answers written, and no call has failed.
pub record Underway {S R W : Type 0} (step : S → List ℕ → List (List ℕ) → S → Type 0) (beginning : S) (source : Source R) (sink : Sink W) (turns : ℕ) (now : S) (line : LineSoFar) (r r' : R) (w w' : W) : Type 0 where
  pub pieces : List (List ℕ)
  pub text : List ℕ
  pub reads : Calls source.gives r pieces r'
  pub count : length pieces ≡ turns
  pub each : AllByRecursion (λ p. 0 < length p) pieces
  pub runs : Runs (Whole step) beginning (ended_lines [] (joined pieces)) text now
  pub writes : Carries sink.takes w text w'
  pub reading : source.failed r' ≡ false
  pub writing : sink.failed w' ≡ false
  pub holds : Holds line (line_buffer [] (joined pieces))

module _ {S R W : Type 0} (step cut : S → List ℕ → List (List ℕ) → S → Type 0) (over : S → Bool) (beginning : S) (source : Source R) (sink : Sink W) where
  -- a run whose handler takes lines, and a read more that gave this piece
  pub record HasRead (turns : ℕ) (now : S) (line : LineSoFar) (r r1 r2 : R) (w w1 : W) (piece : List ℕ) : Type 0 where
    pub underway : Underway step beginning source sink turns now line r r1 w w1
    pub call : source.gives r1 piece r2
    pub reading : source.failed r2 ≡ (source.failed r1 || false)
    pub awake : over now ≡ false

  -- while the handler takes lines, all are answered
  kept : (next : S) (line : LineSoFar) (lines all : List (List ℕ)) (rest : List ℕ) → over next ≡ false
      → (over next ≡ true) ⊎ ((over next ≡ false) × (lines ≡ all) × Holds line rest) → (lines ≡ all) × Holds line rest
  kept next line lines all rest awake (inl is_over) = absurd (true≢false (sym is_over ∙ awake))
  kept next line lines all rest awake (inr whole) = (whole.1, whole.2)

  pub underway_on : (turns : ℕ) (now next : S) (line line1 : LineSoFar) (r r1 r2 : R) (w w1 w2 : W) (piece page : List ℕ)
      → HasRead turns now line r r1 r2 w w1 piece
      → 0 < length piece
      → ((begun : List ℕ) → Holds line begun → Feeds step cut sink.takes sink.failed {X = Unit {0}} {E = Failed} over begun piece now next line1 w1 [] w2 (Ok tt))
      → over next ≡ false
      → Underway step beginning source sink (turns + 1) next line1 r r2 w w2
  underway_on turns now next line line1 r r1 r2 w w1 w2 piece page h some feeds awake =
      let u = h.underway in
      let fed = feeds (line_buffer [] (joined u.pieces)) u.holds in
      let rest = kept next line1 fed.1.lines (ended_lines (line_buffer [] (joined u.pieces)) piece) (line_buffer (line_buffer [] (joined u.pieces)) piece) awake fed.1.rest in
      record {
        pieces = u.pieces ++ piece ∷ [];
        text = u.text ++ fed.0;
        reads = Calls-more source.gives r r1 r2 u.pieces piece u.reads h.call;
        count = rw (length-append) (omega (arith, u.count));
        each = each_more u.pieces piece u.each some;
        runs = rw (joined-more source.gives u.pieces piece, ended_lines-append)
            (Runs-append (Whole step) beginning now next (ended_lines [] (joined u.pieces)) _ u.text fed.0 u.runs
            (rw (sym rest.0) (uncounted step (now, 0) (next, fed.1.most) fed.1.lines fed.0 fed.1.runs)));
        writes = Carries-append sink.takes w w1 w2 u.text fed.0 u.writes (sent_whole sink.takes sink.failed w1 w2 fed.0 fed.2);
        reading = h.reading ∙ rw u.reading refl;
        writing = fed.2.well ∙ u.writing;
        holds = rw (joined-more source.gives u.pieces piece, line_buffer-append) rest.1;
      }

  -- a read more, whose lines are not answered yet
  abbrev up_to_last : (turns : ℕ) (now : S) (line : LineSoFar) (r r1 r2 : R) (w w1 : W) (piece : List ℕ)
      → HasRead turns now line r r1 r2 w w1 piece
      → UpToLast (in_parts step cut over beginning) source r r2
  up_to_last turns now line r r1 r2 w w1 piece h = record {
    pieces = h.underway.pieces;
    piece = piece;
    text = h.underway.text;
    middle = now;
    reads = Calls-more source.gives r r1 r2 h.underway.pieces piece h.underway.reads h.call;
    well_read = h.reading ∙ rw h.underway.reading refl;
    answers = h.underway.runs;
    awake = h.awake;
  }

  -- the handler takes no more lines
  pub ends_over : (turns : ℕ) (now next : S) (line line1 : LineSoFar) (r r1 r2 : R) (w w1 w2 : W) (piece : List ℕ)
      → HasRead turns now line r r1 r2 w w1 piece
      → ((begun : List ℕ) → Holds line begun → Feeds step cut sink.takes sink.failed {X = Unit {0}} {E = Failed} over begun piece now next line1 w1 [] w2 (Ok tt))
      → over next ≡ true
      → EndsOver (in_parts step cut over beginning) source sink next r r2 w w2
  ends_over turns now next line line1 r r1 r2 w w1 w2 piece h feeds is_over =
      let u = h.underway in
      let fed = feeds (line_buffer [] (joined u.pieces)) u.holds in
      record {
        earlier = up_to_last turns now line r r1 r2 w w1 piece h;
        lines = fed.1.lines;
        more = fed.0;
        prefix = fed.1.prefix;
        answers_last = uncounted step (now, 0) (next, fed.1.most) fed.1.lines fed.0 fed.1.runs;
        is_over = is_over;
        writes = Carries-append sink.takes w w1 w2 u.text fed.0 u.writes (sent_whole sink.takes sink.failed w1 w2 fed.0 fed.2);
        well_written = fed.2.well ∙ u.writing;
      }

  -- an answer could not be written
  pub ends_unwritten : (turns : ℕ) (now next : S) (line line1 : LineSoFar) (r r1 r2 : R) (w w1 w2 : W) (piece page : List ℕ) (e : Failed)
      → HasRead turns now line r r1 r2 w w1 piece
      → ((begun : List ℕ) → Holds line begun → Feeds step cut sink.takes sink.failed {X = Unit {0}} {E = Failed} over begun piece now next line1 w1 page w2 (Err e))
      → EndsWriteFault (in_parts step cut over beginning) source sink next r r2 w w2
  ends_unwritten turns now next line line1 r r1 r2 w w1 w2 piece page e h feeds =
      let u = h.underway in
      let fed = feeds (line_buffer [] (joined u.pieces)) u.holds in
      record {
        earlier = up_to_last turns now line r r1 r2 w w1 piece h;
        before = w1;
        lines = fed.2.lines;
        more = fed.0;
        writes = u.writes;
        well_written = u.writing;
        awaited = inl fed.2.prefix;
        broken = fed.1;
        answers_last = fed.2.runs;
      }

  -- where no line is left, the handler takes more lines as before
  stays_awake : (now next : S) (bytes text : List ℕ) → over now ≡ false → Runs (Whole step) now (last_line bytes) text next → (over next ≡ false) ⊎ (0 < length bytes)
  stays_awake now next [] text awake runs = inl (ap over runs.1 ∙ awake)
  stays_awake now next (b ∷ bytes) text awake runs = inr (omega arith)

  -- the input has ended, and the last line is answered
  pub ends_good : (turns : ℕ) (now next : S) (line : LineSoFar) (r r1 r2 : R) (w w1 w2 : W)
      → HasRead turns now line r r1 r2 w w1 []
      → source.ended r2
      → ((bytes : List ℕ) → Holds line bytes → Finishes step cut sink.takes sink.failed {X = Unit {0}} {E = Failed} bytes now next w1 w2 (Ok tt))
      → EndsGood (in_parts step cut over beginning) source sink next r r2 w w2
  ends_good turns now next line r r1 r2 w w1 w2 h end finishes =
      let u = h.underway in
      let last = finishes (line_buffer [] (joined u.pieces)) u.holds in
      record {
        pieces = u.pieces ++ [] ∷ [];
        text = u.text ++ last.0;
        reads = Calls-more source.gives r r1 r2 u.pieces [] u.reads h.call;
        well_read = h.reading ∙ rw u.reading refl;
        all = end;
        answers = rw (joined-more source.gives u.pieces [], append-nil (joined u.pieces))
            (Runs-append (Whole step) beginning now next (ended_lines [] (joined u.pieces)) _ u.text last.0 u.runs last.1);
        awake = rw (joined-more source.gives u.pieces [], append-nil (joined u.pieces)) (stays_awake now next (line_buffer [] (joined u.pieces)) last.0 h.awake last.1);
        writes = Carries-append sink.takes w w1 w2 u.text last.0 u.writes (sent_whole sink.takes sink.failed w1 w2 last.0 last.2);
        well_written = last.2.well ∙ u.writing;
      }

  -- the answer to the last line could not be written
  pub ends_unfinished : (turns : ℕ) (now next : S) (line : LineSoFar) (r r1 r2 : R) (w w1 w2 : W) (e : Failed)
      → HasRead turns now line r r1 r2 w w1 []
      → source.ended r2
      → ((bytes : List ℕ) → Holds line bytes → Finishes step cut sink.takes sink.failed {X = Unit {0}} {E = Failed} bytes now next w1 w2 (Err e))
      → EndsWriteFault (in_parts step cut over beginning) source sink next r r2 w w2
  ends_unfinished turns now next line r r1 r2 w w1 w2 e h end finishes =
      let u = h.underway in
      let last = finishes (line_buffer [] (joined u.pieces)) u.holds in
      record {
        earlier = up_to_last turns now line r r1 r2 w w1 [] h;
        before = w1;
        lines = last_line (line_buffer [] (joined u.pieces));
        more = last.0;
        writes = u.writes;
        well_written = u.writing;
        awaited = inr (refl, refl, end);
        broken = last.1;
        answers_last = last.2;
      }

-- each end of the loop, as it is reported
module _ {S R W : Type 0} {handler : Handler S} {source : Source R} {sink : Sink W} {most : ℕ} {state : S} {r r' : R} {w w' : W} where
  pub good_end : EndsGood handler source sink state r r' w w' ⊎ EndsOver handler source sink state r r' w w' → LoopEnds handler source sink most Good state r r' w w'
  good_end end = record { good = λ _. end; read_fault = λ e. cc; write_fault = λ e. cc; memory = λ e. cc }

  pub unwritten_end : EndsWriteFault handler source sink state r r' w w' → LoopEnds handler source sink most WriteFault state r r' w w'
  unwritten_end end = record { good = λ e. cc; read_fault = λ e. cc; write_fault = λ _. end; memory = λ e. cc }
