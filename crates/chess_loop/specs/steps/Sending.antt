-- Texts on their way to a sink: they are gathered on a page, and written when it is full or before more is read.
--   Sent         all of a text is written, but for what is on the page
--   Flows        whatever was sent before, no more is sent now, or a call failed
--   Sends        whatever was sent before, this text is sent after it, or a call failed
--   SendsParts   what is on the page and these parts after it are sent, and no more is left on the page than may be unwritten; or a call failed
use Rattle.std.specs.Prelude.{◌≡◌, ℕ, ◌≤◌, Bool, List, ◌++◌, length, Result, Ok, Err}
use Rattle.byte_streams.specs.Calls.{Carries, joined}
use Rattle.chess_loop.specs.Runs.{unwritten}
use Rattle.chess_loop.specs.RunEnds.{Broken}

module _ {W : Type 0} (takes : W → List ℕ → W → Type 0) (failed : W → Bool) where
  pub record Sent (old : W) (text page : List ℕ) (new : W) : Type 0 where
    pub prefix : List ℕ
    pub calls : Carries takes old prefix new
    pub whole : prefix ++ page ≡ text
    pub well : failed new ≡ failed old

  -- a text is sent, or sending it broke off
  abbrev pub SentOr : {X E : Type 0} → W → List ℕ → List ℕ → W → Result X E → Type 0
  SentOr old text page new (Ok x) = Sent old text page new
  SentOr old text page new (Err e) = Broken takes failed old text new

  abbrev pub Flows : {X E : Type 0} → List ℕ → W → List ℕ → W → Result X E → Type 0
  Flows page old page1 new result = (start : W) (text : List ℕ) → Sent start text page old → SentOr start text page1 new result

  abbrev pub Sends : {X E : Type 0} → List ℕ → W → List ℕ → List ℕ → W → Result X E → Type 0
  Sends page old text page1 new result = (start : W) (before : List ℕ) → Sent start before page old → SentOr start (before ++ text) page1 new result

  abbrev pub SendsParts : {X E : Type 0} → List ℕ → W → List (List ℕ) → List ℕ → W → Result X E → Type 0
  SendsParts page old parts page1 new (Ok x) = Sent old (page ++ joined parts) page1 new × (length page1 ≤ unwritten (length page) parts)
  SendsParts page old parts page1 new (Err e) = (broken : Broken takes failed old (page ++ joined parts) new) × (length broken.rest ≤ unwritten (length page) parts)
