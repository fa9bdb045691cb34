-- What a line of a session asks for (the UCI protocol's text).
--   gaps           the bytes that separate words
--   Command        what may be asked for
--   command_named  the command that a word names, with the words after it
--   command_in     what a line asks for
--   claims_set     what the words after `setoption` set the option Claims to
use Rattle.std.specs.Prelude.{ℕ, Bool, true, false, ◌&&◌, if◌then◌else◌, List, [], ◌∷◌, map, Option, Some, None, unwrap_or, codes}
use Rattle.std.specs.Char.{to_ascii_lowercase}
use Rattle.std.specs.Str.{bytes_eq}
use Rattle.byte_streams.specs.Words.{white_space, words}
use Rattle.chess_uci.specs.Tables.{beside}

-- from the horizontal tab to the carriage return, and the space
abbrev pub gaps : List ℕ
gaps = white_space

-- what a line asks of the engine
pub data Command : Type 0 where
  -- nothing: `debug`, `register`, `ponderhit`, or a line without a command
  Idle : Command
  Uci : Command
  IsReady : Command
  NewGame : Command
  -- a position, by the words after `position`
  Position : List (List ℕ) → Command
  -- a position for which there is no memory
  Unplaced : Command
  -- a search, by the words after `go`
  Go : List (List ℕ) → Command
  Stop : Command
  Quit : Command
  -- an option, by the words after `setoption`
  SetOption : List (List ℕ) → Command

-- the command of a first word and the words after it; the last three ask for nothing here
abbrev pub command_named : List ℕ → List (List ℕ) → Option Command
command_named word others =
    beside (
    (codes "uci", Uci)
    ∷ (codes "isready", IsReady)
    ∷ (codes "ucinewgame", NewGame)
    ∷ (codes "position", Position others)
    ∷ (codes "go", Go others)
    ∷ (codes "stop", Stop)
    ∷ (codes "quit", Quit)
    ∷ (codes "setoption", SetOption others)
    ∷ (codes "debug", Idle)
    ∷ (codes "register", Idle)
    ∷ (codes "ponderhit", Idle)
    ∷ []) word

-- the first word that is a command decides; words before it are skipped
abbrev pub command : List (List ℕ) → Command
command [] = Idle
command (word ∷ others) = unwrap_or (command_named word others) (command others)

-- the command of a line
abbrev pub command_in : List ℕ → Command
command_in line = command (words gaps line)

-- the same, where memory is refused: a position alone takes some
abbrev pub without_memory : Command → Command
without_memory Idle = Idle
without_memory Uci = Uci
without_memory IsReady = IsReady
without_memory NewGame = NewGame
without_memory (Position words) = Unplaced
without_memory Unplaced = Unplaced
without_memory (Go words) = Go words
without_memory Stop = Stop
without_memory Quit = Quit
without_memory (SetOption words) = SetOption words

-- words that are the same but for the case of their letters
abbrev pub same_word : List ℕ → List ℕ → Bool
same_word a b = bytes_eq (map to_ascii_lowercase a) (map to_ascii_lowercase b)

-- `true` or `false`, in any case of letters
abbrev pub truth_in : List ℕ → Option Bool
truth_in word = if same_word word (codes "true") then Some true else if same_word word (codes "false") then Some false else None

-- `name Claims value true` or `name Claims value false`, in any case; any other words set nothing
abbrev pub claims_set : List (List ℕ) → Option Bool
claims_set (a ∷ b ∷ c ∷ d ∷ []) =
    if same_word a (codes "name") && same_word b (codes "claims") && same_word c (codes "value") then truth_in d else None
claims_set _ = None
