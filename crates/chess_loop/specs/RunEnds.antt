-- How a run over a source and a sink ends, for any handler.
--   most_reads       the most reads of a run
--   Handler          what answers lines: a state to begin with, which text may answer which lines, and where no more are taken
--   in_parts         a handler that answers line by line, each in parts
--   in_texts         one that answers each line by one text, and takes lines to the end of the input
--   IsPrefix         these lines, and others after them, are those
--   Awaited          which lines are answered from one read to the next: those that end in the piece, or at the end of the input the last
--   Broken           a call failed, after a prefix of the text was written; it was the last
--   LoopEnds         how the loop over lines ends, by what it reports
--   UpToLast         the lines that had ended before the last read are answered
--   EndsGood         the whole input was read, and the answers to its lines are written; no call failed
--   EndsOver         the handler takes no more lines: those up to then are answered, no call failed, and nothing was read after them
--   EndsReadFault    a read failed, and nothing was read after it, or there were as many reads as there may be: the lines that had ended are answered
--   EndsWriteFault   a write failed or took no byte, and nothing was read or written after it: what was read before the last read is answered, and a
--                    prefix of the answers to what came last is written
-- Nothing is read once the handler takes no more lines.
use Rattle.std.specs.Prelude.{◌≡◌, ℕ, ◌<◌, Bool, true, false, ◌⊎◌, List, [], ◌∷◌, ◌++◌, length}
use Rattle.std.specs.List.{AllByRecursion}
use Rattle.byte_streams.specs.Calls.{Calls, Carries, joined}
use Rattle.byte_streams.specs.declared.source.Source.{Ghosts as Source}
use Rattle.byte_streams.specs.declared.sink.Sink.{Ghosts as Sink}
use Rattle.chess_loop.specs.declared.driver.RunEnd.{RunEnd}
use Rattle.chess_loop.specs.declared.driver.RunEnd.TheVariants.{Good, ReadFault, WriteFault, Memory}
use Rattle.chess_loop.specs.InputLines.{lines_of, ended_lines, last_line, line_buffer}
use Rattle.chess_loop.specs.Runs.{AnyRest, Partly, Runs, Whole}

-- 2^40
abbrev pub most_reads : ℕ
most_reads = 1099511627776

-- What answers lines.
--   first     its state to begin with
--   answers   these lines may be answered by this text, from the first state to the second
--   partly    so they may, and this rest of the text may be unwritten
--   over      no further line is taken in this state
pub record Handler (S : Type 0) : Type 1 where
  pub first : S
  pub answers : S → List (List ℕ) → List ℕ → S → Type 0
  pub partly : S → List (List ℕ) → List ℕ → List ℕ → S → Type 0
  pub over : S → Bool

-- line by line, by its step and by how the step is cut off
abbrev pub in_parts : {S : Type 0} → (step cut : S → List ℕ → List (List ℕ) → S → Type 0) → (S → Bool) → S → Handler S
in_parts step cut over first = record { first = first; answers = Runs (Whole step); partly = Partly step cut; over = over }

-- no state is over, and a line is answered whole even where its text isn't written whole
abbrev pub in_texts : {S : Type 0} → (S → List ℕ → List ℕ → S → Type 0) → S → Handler S
in_texts step first = record { first = first; answers = Runs step; partly = AnyRest (Runs step); over = λ _. false }

-- the first lines of all
pub record IsPrefix (lines all : List (List ℕ)) : Type 0 where
  pub others : List (List ℕ)
  pub whole : lines ++ others ≡ all

-- the lines that were answered before a call failed: some of those that had ended, or at the end the last one
abbrev pub Awaited : {R : Type 0} → (R → Type 0) → List ℕ → List ℕ → List (List ℕ) → R → Type 0
Awaited ended begun piece lines r = IsPrefix lines (ended_lines begun piece) ⊎ ((piece ≡ []) × (lines ≡ last_line begun) × ended r)

module _ {W : Type 0} (takes : W → List ℕ → W → Type 0) (failed : W → Bool) where
  pub record Broken (old : W) (text : List ℕ) (new : W) : Type 0 where
    pub prefix : List ℕ
    pub rest : List ℕ
    pub before : W
    pub calls : Carries takes old prefix before
    pub whole : prefix ++ rest ≡ text
    pub unwritten : 0 < length rest
    pub well : failed before ≡ failed old
    pub last : takes before [] new
    pub fails : failed new ≡ true

module _ {S R : Type 0} (handler : Handler S) (source : Source R) where
  -- The lines that ended in all pieces but the last may be answered by this text, and the handler takes more lines.
  pub record UpToLast (r r' : R) : Type 0 where
    pub pieces : List (List ℕ)
    pub piece : List ℕ
    pub text : List ℕ
    pub middle : S
    pub reads : Calls source.gives r (pieces ++ piece ∷ []) r'
    pub well_read : source.failed r' ≡ false
    pub answers : handler.answers handler.first (ended_lines [] (joined pieces)) text middle
    pub awake : handler.over middle ≡ false

module _ {S R W : Type 0} (handler : Handler S) (source : Source R) (sink : Sink W) where
  -- Reads gave pieces up to the end of the input; writes took the answers to its lines, in order, and nothing else.
  pub record EndsGood (state : S) (r r' : R) (w w' : W) : Type 0 where
    pub pieces : List (List ℕ)
    pub text : List ℕ
    pub reads : Calls source.gives r pieces r'
    pub well_read : source.failed r' ≡ false
    pub all : source.ended r'
    pub answers : handler.answers handler.first (lines_of (joined pieces)) text state
    -- the handler takes more lines, or the last line, without a line feed, was the one after which it doesn't
    pub awake : (handler.over state ≡ false) ⊎ (0 < length (line_buffer [] (joined pieces)))
    pub writes : Carries sink.takes w text w'
    pub well_written : sink.failed w' ≡ false

  -- A read failed, the last, or there were `most` reads of some bytes each; writes took the answers to the lines that had ended.
  pub record EndsReadFault (most : ℕ) (state : S) (r r' : R) (w w' : W) : Type 0 where
    pub pieces : List (List ℕ)
    pub text : List ℕ
    pub before : R
    pub reads : Calls source.gives r pieces before
    pub well_read : source.failed before ≡ false
    pub each : AllByRecursion (λ piece. 0 < length piece) pieces
    pub cause : (source.gives before [] r' × (source.failed r' ≡ true)) ⊎ ((before ≡ r') × (length pieces ≡ most))
    pub answers : handler.answers handler.first (ended_lines [] (joined pieces)) text state
    pub awake : handler.over state ≡ false
    pub writes : Carries sink.takes w text w'
    pub well_written : sink.failed w' ≡ false

  -- A write failed or took no byte, the last call. Of the answers to the lines that had ended before the last read all is written; of those
  -- that came with it a prefix.
  pub record EndsWriteFault (state : S) (r r' : R) (w w' : W) : Type 0 where
    pub earlier : UpToLast handler source r r'
    pub before : W
    pub lines : List (List ℕ)
    pub more : List ℕ
    pub writes : Carries sink.takes w earlier.text before
    pub well_written : sink.failed before ≡ false
    pub awaited : Awaited source.ended (line_buffer [] (joined earlier.pieces)) earlier.piece lines r'
    pub broken : Broken sink.takes sink.failed before more w'
    pub answers_last : handler.partly earlier.middle lines more broken.rest state

  -- The handler takes no more lines after one that ended in the last piece; writes took the answers up to that one.
  pub record EndsOver (state : S) (r r' : R) (w w' : W) : Type 0 where
    pub earlier : UpToLast handler source r r'
    pub lines : List (List ℕ)
    pub more : List ℕ
    pub prefix : IsPrefix lines (ended_lines (line_buffer [] (joined earlier.pieces)) earlier.piece)
    pub answers_last : handler.answers earlier.middle lines more state
    pub is_over : handler.over state ≡ true
    pub writes : Carries sink.takes w (earlier.text ++ more) w'
    pub well_written : sink.failed w' ≡ false

  -- `Memory` where there was none to begin with
  pub record LoopEnds (most : ℕ) (result : RunEnd) (state : S) (r r' : R) (w w' : W) : Type 0 where
    pub good : result ≡ Good → EndsGood state r r' w w' ⊎ EndsOver state r r' w w'
    pub read_fault : result ≡ ReadFault → EndsReadFault most state r r' w w'
    pub write_fault : result ≡ WriteFault → EndsWriteFault state r r' w w'
    pub memory : result ≡ Memory → (state ≡ handler.first) × (r' ≡ r) × (w' ≡ w)
