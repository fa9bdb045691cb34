-- What a line of the board asks for. Words are separated by spaces and tabs; one carriage return at the line's end is dropped.
use Rattle.std.specs.Prelude.{ℕ, ◌-◌, ◌==◌, nat_le, if◌then◌else◌, List, [], ◌∷◌, length, take, slice_index, Option, Some, None, option_and_then, codes}
use Rattle.std.specs.Str.{bytes_eq}
use Rattle.chess_types.specs.declared.board.man.Colour.{Colour}
use Rattle.chess_types.specs.declared.board.man.Colour.TheVariants.{White, Black}
use Rattle.byte_streams.specs.Words.{words, after_first_word, trimmed}
use Rattle.chess_cli.specs.Numbers.{number_in, depth_in, path_in}

-- what a line asks of the board
pub data Request : Type 0 where
  -- nothing: the line has no words
  Blank : Request
  -- `new`: the start position
  New : Request
  -- `set FEN`: the position of that text, which may be empty
  Set : List ℕ → Request
  -- `counts w`, `counts b`: the attack counts of a colour
  Counts : Colour → Request
  -- `eval`: the evaluation
  Eval : Request
  -- `fen`: the FEN
  Fen : Request
  -- `moves`: the legal moves
  Moves : Request
  -- `checks`: the squares of the men that check the side to move
  Checks : Request
  -- `play M`: the move of that text
  Play : List ℕ → Request
  -- `back`: to the position before the last move
  Back : Request
  -- `step i`: to a child, by its place from 0
  Step : ℕ → Request
  -- `start`: to the root; `end`: along the main continuations
  Start : Request
  End : Request
  -- `goto PATH`: to the node at a path
  Goto : List ℕ → Request
  -- `path`: the path to the cursor
  Path : Request
  -- `promote`: the node before its siblings
  Promote : Request
  -- `delete`: the node and all below it is taken out
  Delete : Request
  -- `comment T`: the text, which may be empty, for the node's comment
  Comment : List ℕ → Request
  -- `nag N`: an annotation number more
  Nag : ℕ → Request
  -- `count`: how often the position has come up
  Count : Request
  -- `status`: the game's status
  Status : Request
  -- `claims`: the draws that may be claimed
  Claims : Request
  -- `claim M`: those that may be claimed with a move
  Claim : List ℕ → Request
  -- `best D`: the best move, D plies deep
  Best : ℕ → Request
  -- `pgn`: the whole game in export form
  Pgn : Request
  -- another first word
  Unknown : Request
  -- a command with the wrong words after it
  Malformed : Request

-- space and tab
abbrev pub word_gaps : List ℕ
word_gaps = codes " \t"

-- the line without one carriage return at its end
abbrev pub without_return : List ℕ → List ℕ
without_return line = if slice_index line (length line - 1) == 13 then take (length line - 1) line else line

-- what comes after the first word
abbrev pub rest_of : List ℕ → List ℕ
rest_of line = after_first_word word_gaps line

-- a command of one word
abbrev pub alone : Request → List (List ℕ) → Request
alone request [] = request
alone request (word ∷ words) = Malformed

-- the word after a command, where there is one alone
abbrev pub only_word : List (List ℕ) → Option (List ℕ)
only_word [] = None
only_word (word ∷ []) = Some word
only_word (word ∷ more ∷ words) = None

-- a command with what a word writes
abbrev pub written_by : {A : Type 0} → (A → Request) → Option A → Request
written_by request None = Malformed
written_by request (Some value) = request value

-- a request of one word more
abbrev pub with_word : (List ℕ → Request) → List (List ℕ) → Request
with_word request words = written_by request (only_word words)

-- a request of the value that one word more writes
abbrev pub with_value : {A : Type 0} → (List ℕ → Option A) → (A → Request) → List (List ℕ) → Request
with_value value request words = written_by request (option_and_then value (only_word words))

-- the colour that a word names
abbrev pub colour_in : List ℕ → Option Colour
colour_in word = if bytes_eq word (codes "w") then Some White else if bytes_eq word (codes "b") then Some Black else None

-- an annotation number is one of 0 to 255
abbrev pub nag_in : List ℕ → Option ℕ
nag_in word = option_and_then (λ nag. if nat_le nag 255 then Some nag else None) (number_in word)

-- a command of one word, by that word
abbrev pub alone_named : List ℕ → Option Request
alone_named word =
    if bytes_eq word (codes "new") then Some New
    else if bytes_eq word (codes "eval") then Some Eval
    else if bytes_eq word (codes "fen") then Some Fen
    else if bytes_eq word (codes "moves") then Some Moves
    else if bytes_eq word (codes "checks") then Some Checks
    else if bytes_eq word (codes "back") then Some Back
    else if bytes_eq word (codes "start") then Some Start
    else if bytes_eq word (codes "end") then Some End
    else if bytes_eq word (codes "path") then Some Path
    else if bytes_eq word (codes "promote") then Some Promote
    else if bytes_eq word (codes "delete") then Some Delete
    else if bytes_eq word (codes "count") then Some Count
    else if bytes_eq word (codes "status") then Some Status
    else if bytes_eq word (codes "claims") then Some Claims
    else if bytes_eq word (codes "pgn") then Some Pgn
    else None

-- another command, by its word and what comes after it
abbrev pub with_rest : List ℕ → List ℕ → Request
with_rest word rest =
    if bytes_eq word (codes "set") then Set (trimmed word_gaps rest)
    else if bytes_eq word (codes "counts") then with_value colour_in Counts (words word_gaps rest)
    else if bytes_eq word (codes "play") then with_word Play (words word_gaps rest)
    else if bytes_eq word (codes "step") then with_value number_in Step (words word_gaps rest)
    else if bytes_eq word (codes "goto") then with_value path_in Goto (words word_gaps rest)
    else if bytes_eq word (codes "comment") then Comment (trimmed word_gaps rest)
    else if bytes_eq word (codes "nag") then with_value nag_in Nag (words word_gaps rest)
    else if bytes_eq word (codes "claim") then with_word Claim (words word_gaps rest)
    else if bytes_eq word (codes "best") then with_value depth_in Best (words word_gaps rest)
    else Unknown

-- the request of a word that is known, if nothing follows it; else another
abbrev pub asked_by : Option Request → List (List ℕ) → Request → Request
asked_by None others other = other
asked_by (Some request) others other = alone request others

-- what the words of the line ask for
abbrev pub request_in : List ℕ → List (List ℕ) → Request
request_in line [] = Blank
request_in line (word ∷ others) = asked_by (alone_named word) others (with_rest word (rest_of line))

-- the request of a line, without the carriage return at its end
abbrev pub request : List ℕ → Request
request line = request_in (without_return line) (words word_gaps (without_return line))
