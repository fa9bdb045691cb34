-- A line that is read in pieces, and the lines that end in a piece, for any handler.
--   Holds         these are the bytes of the line so far
--   AnswersLine   a line is answered, or answering it is broken off, since a call of the sink failed
--   AnswersHeld   the same of the line so far, whatever its bytes
--   Refuses       a line that is not kept is answered by one text on the page, and the state stays
--   Feeds         the lines that end in a piece are answered, up to one after which the handler takes no more; the rest of the piece is kept
--   Finishes      the last line is answered, if there is one
use Rattle.std.specs.Prelude.{◌≡◌, ℕ, ◌<◌, ◌≤◌, ◌+◌, min, Bool, true, false, ◌⊎◌, List, [], ◌∷◌, ◌++◌, length, Result, Ok, Err}
use Rattle.chess_loop.specs.Runs.{Runs, Counted, Partly, Whole}
use Rattle.chess_loop.specs.InputLines.{line_limit, line_room}
use Rattle.chess_loop.specs.declared.line_buffer.Unread.{Unread}
use Rattle.chess_loop.specs.steps.Readings.{IsUnread}
use Rattle.chess_loop.specs.RunEnds.{Broken, IsPrefix}
use Rattle.chess_loop.specs.InputLines.{ended_lines, last_line, line_buffer}
use Rattle.chess_loop.specs.steps.LineSoFar.{LineSoFar}
use Rattle.chess_loop.specs.steps.Sending.{Sent, SendsParts}

-- all of them are kept, or more than the room that there is for each line, and then fewer are
pub record Holds (line : LineSoFar) (bytes : List ℕ) : Type 0 where
  pub seen : line.seen ≡ min (length bytes) (line_limit + 1)
  pub kept : ((line.kept ≡ bytes) × (length bytes ≤ line_limit)) ⊎ ((length line.kept < line.seen) × (line_room < length bytes))

-- each line that is not kept for this reason may be answered by what is put on the page
abbrev pub Refuses : {S : Type 0} → (S → List ℕ → List (List ℕ) → S → Type 0) → Unread → S → List ℕ → List ℕ → Type 0
Refuses step unread state page page1 =
    (bytes : List ℕ) → IsUnread bytes unread → (text : List ℕ) × step state bytes (text ∷ []) state × (page1 ≡ page ++ text)

module _ {S W : Type 0} (step cut : S → List ℕ → List (List ℕ) → S → Type 0) (takes : W → List ℕ → W → Type 0) (failed : W → Bool) where
  -- a line is answered, or answering it broke off
  abbrev pub StepOr : {X E : Type 0} → S → List ℕ → List (List ℕ) → S → Result X E → Type 0
  StepOr old line parts new (Ok x) = step old line parts new
  StepOr old line parts new (Err e) = cut old line parts new

  abbrev pub AnswersLine : {X E : Type 0} → List ℕ → S → S → List ℕ → W → List ℕ → W → Result X E → Type 0
  AnswersLine line old new page before page1 after result =
      (parts : List (List ℕ)) × StepOr old line parts new result × SendsParts takes failed page before parts page1 after result

  abbrev pub AnswersHeld : {X E : Type 0} → LineSoFar → S → S → List ℕ → W → List ℕ → W → Result X E → Type 0
  AnswersHeld line old new page before page1 after result =
      (bytes : List ℕ) → Holds line bytes → AnswersLine bytes old new page before page1 after result

  -- of the answers no more than `most` bytes are unwritten, those on the page
  pub record Fed (over : S → Bool) (begun piece : List ℕ) (old new : S) (line : LineSoFar) (text page : List ℕ) : Type 0 where
    pub lines : List (List ℕ)
    pub most : ℕ
    pub prefix : IsPrefix lines (ended_lines begun piece)
    pub runs : Runs (Counted step) (old, 0) lines text (new, most)
    pub late : length page ≤ most
    pub rest : (over new ≡ true) ⊎ ((over new ≡ false) × (lines ≡ ended_lines begun piece) × Holds line (line_buffer begun piece))

  -- answering the lines of a piece broke off
  pub record FedPartly (begun piece : List ℕ) (old new : S) (text rest : List ℕ) : Type 0 where
    pub lines : List (List ℕ)
    pub prefix : IsPrefix lines (ended_lines begun piece)
    pub runs : Partly step cut old lines text rest new

  -- what is on the page is sent, too
  abbrev pub Feeds : {X E : Type 0} → (S → Bool) → List ℕ → List ℕ → S → S → LineSoFar → W → List ℕ → W → Result X E → Type 0
  Feeds over begun piece old new line before page after (Ok x) = (text : List ℕ) × Fed over begun piece old new line text page × Sent takes failed before text page after
  Feeds over begun piece old new line before page after (Err e) =
      (text : List ℕ) × (broken : Broken takes failed before text after) × FedPartly begun piece old new text broken.rest

  abbrev pub Finishes : {X E : Type 0} → List ℕ → S → S → W → W → Result X E → Type 0
  Finishes bytes old new before after (Ok x) = (text : List ℕ) × Runs (Whole step) old (last_line bytes) text new × Sent takes failed before text [] after
  Finishes bytes old new before after (Err e) = (text : List ℕ) × (broken : Broken takes failed before text after) × Partly step cut old (last_line bytes) text broken.rest new
