-- A piece is fed line by line.
use Rattle.std.specs.Prelude.{OnOk}
use Rattle.std.proofs.Common.{◌≡◌, ℕ, ◌+◌, ◌≤◌, ◌==◌, Bool, true, false, true≢false, length, List, [], ◌∷◌, ◌++◌, take, drop, Some, None, Result, Ok, Err, inl, inr, refl, sym, ap, ◌∙◌, append_assoc, append-nil, arith}
use Rattle.memchr.specs.Find.{IsFirstByte, is_byte}
use Rattle.byte_streams.specs.Calls.{joined}
use Rattle.byte_streams.specs.declared.source.Failed.{Failed}
use Rattle.chess_loop.specs.InputLines.{ended_lines, last_line, line_buffer}
use Rattle.chess_loop.specs.RunEnds.{Broken, IsPrefix}
use Rattle.chess_loop.specs.Runs.{Runs, Counted, unwritten}
use Rattle.chess_loop.specs.steps.Reads.{Holds, AnswersHeld, Feeds, Finishes}
use Rattle.chess_loop.specs.steps.LineSoFar.{LineSoFar}
use Rattle.chess_loop.specs.steps.Sending.{Sent, Flows}
use Rattle.chess_loop.proofs.LineLemmas.{ended_lines-at, line_buffer-at, ended_lines-free, line_buffer-free}
use Rattle.chess_loop.proofs.RunLemmas.{Runs-none, Runs-one, Runs-more, uncounted}
use Rattle.chess_loop.proofs.SendingLemmas.{broken_parts, flows_broken, flows_shorter, sent_parts, sent_start, unwritten_most}

-- So far: lines of the piece are answered, and the rest of it is to come.
pub record Going {S W : Type 0} (step : S → List ℕ → List (List ℕ) → S → Type 0) (over : S → Bool) (takes : W → List ℕ → W → Type 0) (failed : W → Bool) (begun piece : List ℕ) (old now : S) (line : LineSoFar) (before : W) (page : List ℕ) (after : W) (rest : List ℕ) : Type 0 where
  pub done : List (List ℕ)
  pub text : List ℕ
  pub kept : List ℕ
  pub most : ℕ
  pub runs : Runs (Counted step) (old, 0) done text (now, most)
  pub late : length page ≤ most
  pub sent : Sent takes failed before text page after
  pub holds : Holds line kept
  pub lines : ended_lines begun piece ≡ done ++ ended_lines kept rest
  pub left : line_buffer begun piece ≡ line_buffer kept rest

module _ {S W : Type 0} (step cut : S → List ℕ → List (List ℕ) → S → Type 0) (over : S → Bool) (takes : W → List ℕ → W → Type 0) (failed : W → Bool) (begun piece : List ℕ) where
  pub going_start : (old : S) (line : LineSoFar) (w : W) (page : List ℕ) → page ≡ [] → Holds line begun → Going step over takes failed begun piece old old line w page w piece
  going_start old line w page none holds = record {
    done = [];
    text = [];
    kept = begun;
    most = 0;
    runs = Runs-none (Counted step) (old, 0);
    late = rw none (omega arith);
    sent = rw none (sent_start takes failed w []);
    holds = holds;
    lines = refl;
    left = refl;
  }

  -- room is made on the page
  pub going_room : (old now : S) (line : LineSoFar) (w0 w1 w2 : W) (page page1 rest : List ℕ)
      → Going step over takes failed begun piece old now line w0 page w1 rest
      → Flows takes failed {X = Unit {0}} {E = Failed} page w1 page1 w2 (Ok tt)
      → Going step over takes failed begun piece old now line w0 page1 w2 rest
  going_room old now line w0 w1 w2 page page1 rest going flows = record {
    done = going.done;
    text = going.text;
    kept = going.kept;
    most = going.most;
    runs = going.runs;
    late = omega (arith, going.late, flows_shorter takes failed w1 w2 page page1 flows);
    sent = flows w0 going.text going.sent;
    holds = going.holds;
    lines = going.lines;
    left = going.left;
  }

  -- no room could be made
  pub going_cramped : (old now : S) (line line1 : LineSoFar) (w0 w1 w2 : W) (page page1 page2 rest : List ℕ) (e : Failed)
      → Going step over takes failed begun piece old now line w0 page w1 rest
      → Flows takes failed {X = Unit {0}} {E = Failed} page w1 page1 w2 (Err e)
      → Feeds step cut takes failed {X = Unit {0}} {E = Failed} over begun piece old now line1 w0 page2 w2 (Err e)
  going_cramped old now line line1 w0 w1 w2 page page1 page2 rest e going flows =
      let broken = flows_broken takes failed w0 w1 w2 going.text page page1 e going.sent flows in (
        going.text,
        broken.0,
        record {
          lines = going.done;
          prefix = record { others = ended_lines going.kept rest; whole = sym going.lines };
          runs = (going.most, omega (arith, broken.1, going.late), inl going.runs);
        },
      )

  -- the line that ends next, and those after it
  line_next : (old now : S) (line : LineSoFar) (w0 w1 : W) (page rest prefix : List ℕ) (at : ℕ)
      → (going : Going step over takes failed begun piece old now line w0 page w1 rest)
      → IsFirstByte (is_byte 10) rest (Some at)
      → prefix ≡ take at rest
      → ended_lines begun piece ≡ (going.done ++ (going.kept ++ prefix) ∷ []) ++ ended_lines [] (drop (at + 1) rest)
  line_next old now line w0 w1 page rest prefix at going first front_is =
      going.lines ∙ rw (ended_lines-at going.kept rest at first, ← front_is) (sym (append_assoc going.done ((going.kept ++ prefix) ∷ []) (ended_lines [] (drop (at + 1) rest))))

  -- with it the lines answered are the first ones of the piece
  front_next : (old now : S) (line : LineSoFar) (w0 w1 : W) (page rest prefix : List ℕ) (at : ℕ)
      → (going : Going step over takes failed begun piece old now line w0 page w1 rest)
      → IsFirstByte (is_byte 10) rest (Some at)
      → prefix ≡ take at rest
      → IsPrefix (going.done ++ (going.kept ++ prefix) ∷ []) (ended_lines begun piece)
  front_next old now line w0 w1 page rest prefix at going first front_is = record {
    others = ended_lines [] (drop (at + 1) rest);
    whole = sym (line_next old now line w0 w1 page rest prefix at going first front_is);
  }

  -- a line more is answered
  run_on : (old now next : S) (most : ℕ) (done : List (List ℕ)) (line text : List ℕ) (parts : List (List ℕ)) → Runs (Counted step) (old, 0) done text (now, most) → step now line parts next
      → Runs (Counted step) (old, 0) (done ++ line ∷ []) (text ++ joined parts) (next, unwritten most parts)
  run_on old now next most done line text parts runs is =
      Runs-more (Counted step) (old, 0) (now, most) (next, unwritten most parts) done line text (joined parts) runs (parts, is, refl, refl)

  pub going_on : (old now next : S) (line line1 line2 : LineSoFar) (w0 w1 w2 : W) (page page1 rest prefix others : List ℕ) (at : ℕ)
      → (going : Going step over takes failed begun piece old now line w0 page w1 rest)
      → IsFirstByte (is_byte 10) rest (Some at)
      → prefix ≡ take at rest
      → others ≡ drop (at + 1) rest
      → ((bytes : List ℕ) → Holds line bytes → Holds line1 (bytes ++ prefix))
      → AnswersHeld step cut takes failed {X = Unit {0}} {E = Failed} line1 now next page w1 page1 w2 (Ok tt)
      → Holds line2 []
      → Going step over takes failed begun piece old next line2 w0 page1 w2 others
  going_on old now next line line1 line2 w0 w1 w2 page page1 rest prefix others at going first front_is others_is adds answers restarted =
      let answer = answers (going.kept ++ prefix) (adds going.kept going.holds) in
      record {
        done = going.done ++ (going.kept ++ prefix) ∷ [];
        text = going.text ++ joined answer.0;
        kept = [];
        most = unwritten going.most answer.0;
        runs = run_on old now next going.most going.done (going.kept ++ prefix) going.text answer.0 going.runs answer.1;
        late = omega (arith, answer.2.1, unwritten_most (length page) going.most answer.0 going.late);
        sent = sent_parts takes failed w0 w1 w2 going.text page page1 answer.0 going.sent answer.2.0;
        holds = restarted;
        lines = rw others_is (line_next old now line w0 w1 page rest prefix at going first front_is);
        left = going.left ∙ rw others_is (line_buffer-at going.kept rest at first);
      }

  -- answering the line was broken off
  pub going_stops : (old now next : S) (line line1 line2 : LineSoFar) (w0 w1 w2 : W) (page page1 page2 rest prefix : List ℕ) (at : ℕ) (e : Failed)
      → (going : Going step over takes failed begun piece old now line w0 page w1 rest)
      → IsFirstByte (is_byte 10) rest (Some at)
      → prefix ≡ take at rest
      → ((bytes : List ℕ) → Holds line bytes → Holds line1 (bytes ++ prefix))
      → AnswersHeld step cut takes failed {X = Unit {0}} {E = Failed} line1 now next page w1 page1 w2 (Err e)
      → Feeds step cut takes failed {X = Unit {0}} {E = Failed} over begun piece old next line2 w0 page2 w2 (Err e)
  going_stops old now next line line1 line2 w0 w1 w2 page page1 page2 rest prefix at e going first front_is adds answers =
      let answer = answers (going.kept ++ prefix) (adds going.kept going.holds) in
      let broken = broken_parts takes failed w0 w1 w2 going.text page answer.0 going.sent answer.2.0 in (
        going.text ++ joined answer.0,
        broken.0,
        record {
          lines = going.done ++ (going.kept ++ prefix) ∷ [];
          prefix = front_next old now line w0 w1 page rest prefix at going first front_is;
          runs = (
            unwritten going.most answer.0,
            omega (arith, ap length broken.1, answer.2.1, unwritten_most (length page) going.most answer.0 going.late),
            inr (record {
              done = going.done;
              line = going.kept ++ prefix;
              answers = going.text;
              begun = joined answer.0;
              state = (now, going.most);
              runs = going.runs;
              last = (answer.0, answer.1, refl, refl);
              lines_are = refl;
              text_is = refl;
            }),
          );
        },
      )

  -- the handler takes no more lines
  pub going_over : (old now next : S) (line line1 line2 : LineSoFar) (w0 w1 w2 : W) (page page1 rest prefix : List ℕ) (at : ℕ)
      → (going : Going step over takes failed begun piece old now line w0 page w1 rest)
      → IsFirstByte (is_byte 10) rest (Some at)
      → prefix ≡ take at rest
      → ((bytes : List ℕ) → Holds line bytes → Holds line1 (bytes ++ prefix))
      → AnswersHeld step cut takes failed {X = Unit {0}} {E = Failed} line1 now next page w1 page1 w2 (Ok tt)
      → over next ≡ true
      → Feeds step cut takes failed {X = Unit {0}} {E = Failed} over begun piece old next line2 w0 page1 w2 (Ok tt)
  going_over old now next line line1 line2 w0 w1 w2 page page1 rest prefix at going first front_is adds answers is_over =
      let answer = answers (going.kept ++ prefix) (adds going.kept going.holds) in (
        going.text ++ joined answer.0,
        record {
          lines = going.done ++ (going.kept ++ prefix) ∷ [];
          most = unwritten going.most answer.0;
          prefix = front_next old now line w0 w1 page rest prefix at going first front_is;
          runs = run_on old now next going.most going.done (going.kept ++ prefix) going.text answer.0 going.runs answer.1;
          late = omega (arith, answer.2.1, unwritten_most (length page) going.most answer.0 going.late);
          rest = inl is_over;
        },
        sent_parts takes failed w0 w1 w2 going.text page page1 answer.0 going.sent answer.2.0,
      )

  -- no more line ends in the piece
  pub going_ends : (old now : S) (line line1 : LineSoFar) (w0 w1 : W) (page rest : List ℕ)
      → Going step over takes failed begun piece old now line w0 page w1 rest
      → over now ≡ false
      → IsFirstByte (is_byte 10) rest None
      → ((bytes : List ℕ) → Holds line bytes → Holds line1 (bytes ++ rest))
      → Feeds step cut takes failed {X = Unit {0}} {E = Failed} over begun piece old now line1 w0 page w1 (Ok tt)
  going_ends old now line line1 w0 w1 page rest going awake none adds =
      let all : going.done ≡ ended_lines begun piece = sym (going.lines ∙ rw (ended_lines-free going.kept rest none) (append-nil going.done)) in (
        going.text,
        record {
          lines = going.done;
          most = going.most;
          prefix = record { others = []; whole = append-nil going.done ∙ all };
          runs = going.runs;
          late = going.late;
          rest = inr (awake, all, rw (going.left, line_buffer-free going.kept rest none) (adds going.kept going.holds));
        },
        going.sent,
      )

  -- what stood on the page is written, too
  pub fed_flushed : (old new : S) (line : LineSoFar) (w0 w1 w2 : W) (page page1 : List ℕ) (result : Result (Unit {0}) Failed)
      → Feeds step cut takes failed {X = Unit {0}} {E = Failed} over begun piece old new line w0 page w1 (Ok tt)
      → Flows takes failed page w1 page1 w2 result
      → OnOk result (page1 ≡ [])
      → Feeds step cut takes failed over begun piece old new line w0 [] w2 result
  fed_flushed old new line w0 w1 w2 page page1 (Ok x) fed flows empty = (
    fed.0,
    record { lines = fed.1.lines; most = fed.1.most; prefix = fed.1.prefix; runs = fed.1.runs; late = omega arith; rest = fed.1.rest },
    rw empty at (flows w0 fed.0 fed.2),
  )
  fed_flushed old new line w0 w1 w2 page page1 (Err e) fed flows empty =
      let broken = flows_broken takes failed w0 w1 w2 fed.0 page page1 e fed.2 flows in (
        fed.0,
        broken.0,
        record { lines = fed.1.lines; prefix = fed.1.prefix; runs = (fed.1.most, omega (arith, broken.1, fed.1.late), inl fed.1.runs) },
      )

module _ {S W : Type 0} (step cut : S → List ℕ → List (List ℕ) → S → Type 0) (takes : W → List ℕ → W → Type 0) (failed : W → Bool) where
  -- what comes after the last line feed is a line, unless it is nothing
  one_last : (bytes : List ℕ) → (length bytes == 0) ≡ false → last_line bytes ≡ bytes ∷ []
  one_last [] some = absurd (true≢false some)
  one_last (b ∷ bytes) some = refl

  -- parts that are the first on the page
  first_sent : (w w1 : W) (page page1 : List ℕ) (parts : List (List ℕ)) → page ≡ [] → Sent takes failed w (page ++ joined parts) page1 w1 × (length page1 ≤ unwritten (length page) parts)
      → Sent takes failed w (joined parts) page1 w1 × (length page1 ≤ unwritten 0 parts)
  first_sent w w1 page page1 parts none sends = rw none at sends

  first_broken : (w w1 : W) (page : List ℕ) (parts : List (List ℕ)) → page ≡ [] → (broken : Broken takes failed w (page ++ joined parts) w1) × (length broken.rest ≤ unwritten (length page) parts)
      → (broken : Broken takes failed w (joined parts) w1) × (length broken.rest ≤ unwritten 0 parts)
  first_broken w w1 page parts none sends = rw none at sends

  one_line : (old new : S) (line : List ℕ) (parts : List (List ℕ)) → step old line parts new → Runs (Counted step) (old, 0) (line ∷ []) (joined parts) (new, unwritten 0 parts)
  one_line old new line parts is = Runs-one (Counted step) (old, 0) (new, unwritten 0 parts) line (joined parts) (parts, is, refl, refl)

  -- answering the last line was broken off
  pub finish_broken : (old new : S) (line : LineSoFar) (w w1 : W) (page page1 bytes : List ℕ) (e : Failed) → page ≡ [] → Holds line bytes
      → (length bytes == 0) ≡ false
      → AnswersHeld step cut takes failed {X = Unit {0}} {E = Failed} line old new page w page1 w1 (Err e)
      → Finishes step cut takes failed {X = Unit {0}} {E = Failed} bytes old new w w1 (Err e)
  finish_broken old new line w w1 page page1 bytes e none holds some answers =
      let answer = answers bytes holds in
      let broken = first_broken w w1 page answer.0 none answer.2 in
      rw (one_last bytes some) (
        joined answer.0,
        broken.0,
        (
          unwritten 0 answer.0,
          broken.1,
          inr (record {
            done = [];
            line = bytes;
            answers = [];
            begun = joined answer.0;
            state = (old, 0);
            runs = Runs-none (Counted step) (old, 0);
            last = (answer.0, answer.1, refl, refl);
            lines_are = refl;
            text_is = refl;
          }),
        ),
      )

  -- the last line is answered, and the answer written or not
  pub finish_whole : (old new : S) (line : LineSoFar) (w w1 w2 : W) (page page1 page2 bytes : List ℕ) (result : Result (Unit {0}) Failed) → page ≡ [] → Holds line bytes
      → (length bytes == 0) ≡ false
      → AnswersHeld step cut takes failed {X = Unit {0}} {E = Failed} line old new page w page1 w1 (Ok tt)
      → Flows takes failed page1 w1 page2 w2 result
      → OnOk result (page2 ≡ [])
      → Finishes step cut takes failed bytes old new w w2 result
  finish_whole old new line w w1 w2 page page1 page2 bytes (Ok x) none holds some answers flows empty =
      let answer = answers bytes holds in
      let sent = first_sent w w1 page page1 answer.0 none answer.2 in
      rw (one_last bytes some) (
        joined answer.0,
        uncounted step (old, 0) (new, unwritten 0 answer.0) (bytes ∷ []) (joined answer.0) (one_line old new bytes answer.0 answer.1),
        rw empty at (flows w (joined answer.0) sent.0),
      )
  finish_whole old new line w w1 w2 page page1 page2 bytes (Err e) none holds some answers flows empty =
      let answer = answers bytes holds in
      let sent = first_sent w w1 page page1 answer.0 none answer.2 in
      let broken = flows_broken takes failed w w1 w2 (joined answer.0) page1 page2 e sent.0 flows in
      rw (one_last bytes some) (
        joined answer.0,
        broken.0,
        (unwritten 0 answer.0, omega (arith, broken.1, sent.1), inl (one_line old new bytes answer.0 answer.1)),
      )
