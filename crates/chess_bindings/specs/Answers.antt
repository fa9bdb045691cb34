-- What a board answers, and what an engine replies.
--   IsLineAnswered   of a line: the board may answer it with a text, and go from the one board to the other; the text is written. Or there was no memory, and
--                    all is as before
--   IsReplied        of an event: the engine may reply so, and go from the one state to the other; the replies are written, each on a line of its own
use Rattle.std.specs.Prelude.{◌≡◌, ◌⊎◌, ℕ, List}
use Rattle.chess_tree.specs.GameTree.{TreeParts}
use Rattle.chess_uci.specs.declared.event.Event.{Event}
use Rattle.chess_uci.specs.declared.reply.Reply.{Reply}
use Rattle.chess_uci.specs.Events.{Follows}
use Rattle.chess_uci.specs.Machine.{State}
use Rattle.chess_cli.specs.Answers.{AnswersRequest}
use Rattle.chess_cli.specs.Requests.{request}
use Rattle.chess_cli.specs.TimedSessions.{reply_lines}
use Rattle.chess_bindings.specs.Codes.{no_memory}
use Rattle.chess_bindings.specs.Handed.{IsHanded}

-- the answer to a line
abbrev pub IsLineAnswered : TreeParts → List ℕ → (code count count' : ℕ) → (room room' : List ℕ) → TreeParts → Type 0
IsLineAnswered board line code count count' room room' board' =
    ((text : List ℕ) × AnswersRequest board (request line) text board' × IsHanded text code count' room room')
    ⊎ ((code ≡ no_memory) × (board' ≡ board) × (count' ≡ count) × (room' ≡ room))

-- the replies to an event
abbrev pub IsReplied : Event → (old new : State) → (code count' : ℕ) → (room room' : List ℕ) → Type 0
IsReplied event old new code count' room room' = (replies : List Reply) × Follows old event replies new × IsHanded (reply_lines replies) code count' room room'
