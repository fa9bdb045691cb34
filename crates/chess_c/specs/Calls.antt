-- What a call on a slot answers, and what it leaves there.
--   Asks   of a call that leaves all as it was: an empty slot is answered so, and this is kept; else this holds of the board and the status
--   Acts   of a call that may change the board: an empty slot is answered so; else the call on the board may end so, from the one board to the other
--   AsksHeading, ActsOnHeading   the same two of a call on the tags and the end of a game
--   IsCopied     of a copy into another slot: it is there, or there is no memory and the other slot is as it was
--   IsAnswerHanded  of a line: the board may answer it with a text, and go from the one board to the other; the text is written, or there was no memory, and all is as
--                before (`IsLineAnswered`)
--   IsReplying   of an event: the engine replies to it (`IsRepliedFrom`)
--   IsSearching, IsInfinite, IsWaiting, IsEnded   what is shown of the engine: whether it searches, without an end of its own, and waits for `stop`; whether `quit` came
--   IsTimed      after how many milliseconds the clock ends the search; the status of none where it ends none
--   IsReplyingWithin   of a slice that may be abandoned (`IsRepliedWithinFrom`)
use Rattle.std.specs.Prelude.{◌≡◌, ◌⊎◌, ℕ, Bool, List, Option, Some, None, is_some, Result}
use Rattle.chess_tree.specs.GameTree.{TreeParts}
use Rattle.chess_uci.specs.declared.event.Event.{Event}
use Rattle.chess_uci.specs.Machine.{State, is_infinite, is_waiting, time_left}
use Rattle.chess_cli.specs.declared.board_command.refusal.Refusal.{Refusal}
use Rattle.chess_bindings.specs.Answers.{IsLineAnswered}
use Rattle.chess_bindings.specs.Codes.{empty_slot, no_memory, none_best, ok}
use Rattle.chess_bindings.specs.Headings.{HeadingParts}
use Rattle.chess_c.specs.Codes.{ended_code}
use Rattle.chess_c.specs.Engines.{IsRepliedFrom, IsRepliedWithinFrom}
use Rattle.chess_c.specs.Held.{Held, copy_of, with_board, with_engine, with_heading}

-- a call that looks: an empty slot, or an answer and all as before
abbrev pub Asks : (kept : Type 0) → (TreeParts → ℕ → Type 0) → Option Held → ℕ → Option Held → Type 0
Asks kept says None code new = (code ≡ empty_slot) × (new ≡ None) × kept
Asks kept says (Some held) code new = says held.board code × (new ≡ Some held)

-- a call that may change the board: an empty slot, or how it ends
abbrev pub Acts : (TreeParts → Result (Unit {0}) Refusal → TreeParts → Type 0) → Option Held → ℕ → Option Held → Type 0
Acts ends None code new = (code ≡ empty_slot) × (new ≡ None)
Acts ends (Some held) code new = (ended : Result (Unit {0}) Refusal) × (after : TreeParts) × ends held.board ended after × (code ≡ ended_code ended) × (new ≡ Some (with_board after held))

-- a call that looks at the heading, or at board and heading
abbrev pub AsksHeading : (kept : Type 0) → (TreeParts → HeadingParts → ℕ → Type 0) → Option Held → ℕ → Option Held → Type 0
AsksHeading kept says None code new = (code ≡ empty_slot) × (new ≡ None) × kept
AsksHeading kept says (Some held) code new = says held.board held.heading code × (new ≡ Some held)

-- a call that may change the heading, and nothing else
abbrev pub ActsOnHeading : (HeadingParts → ℕ → HeadingParts → Type 0) → Option Held → ℕ → Option Held → Type 0
ActsOnHeading ends None code new = (code ≡ empty_slot) × (new ≡ None)
ActsOnHeading ends (Some held) code new = (after : HeadingParts) × ends held.heading code after × (new ≡ Some (with_heading after held))

-- a copy is in the other slot, or there is no memory
abbrev pub IsCopied : Option Held → ℕ → (other other' : Option Held) → Type 0
IsCopied None code other other' = (code ≡ empty_slot) × (other' ≡ other)
IsCopied (Some held) code other other' = ((code ≡ ok) × (other' ≡ Some (copy_of held))) ⊎ ((code ≡ no_memory) × (other' ≡ other))

-- a line is answered, and the answer written
abbrev pub IsAnswerHanded : Option Held → List ℕ → (code count count' : ℕ) → (room room' : List ℕ) → Option Held → Type 0
IsAnswerHanded None line code count count' room room' new = (code ≡ empty_slot) × (new ≡ None) × (count' ≡ count) × (room' ≡ room)
IsAnswerHanded (Some held) line code count count' room room' new =
    (after : TreeParts) × IsLineAnswered held.board line code count count' room room' after × (new ≡ Some (with_board after held))

-- an event is replied to
abbrev pub IsReplying : Event → Option Held → (code count count' : ℕ) → (room room' : List ℕ) → Option Held → Type 0
IsReplying event None code count count' room room' new = (code ≡ empty_slot) × (new ≡ None) × (count' ≡ count) × (room' ≡ room)
IsReplying event (Some held) code count count' room room' new =
    (after : State) × IsRepliedFrom event held.engine after code count count' room room' × (new ≡ Some (with_engine after held))

-- a slice is replied to, or abandoned as a watch says
abbrev pub IsReplyingWithin : (says : ℕ → Option Bool) → Option Held → (nodes nodes' : ℕ) → (made made' : Bool) → (code count count' : ℕ) → (room room' : List ℕ) → Option Held → Type 0
IsReplyingWithin says None nodes nodes' made made' code count count' room room' new =
    (code ≡ empty_slot) × (new ≡ None) × (nodes' ≡ nodes) × (made' ≡ made) × (count' ≡ count) × (room' ≡ room)
IsReplyingWithin says (Some held) nodes nodes' made made' code count count' room room' new =
    (after : State) × IsRepliedWithinFrom says held.engine after nodes nodes' made made' code count count' room room' × (new ≡ Some (with_engine after held))

-- whether the engine searches
abbrev pub IsSearching : Option Held → ℕ → (searching searching' : Bool) → Option Held → Type 0
IsSearching None code searching searching' new = (code ≡ empty_slot) × (new ≡ None) × (searching' ≡ searching)
IsSearching (Some held) code searching searching' new = (code ≡ ok) × (new ≡ Some held) × (searching' ≡ is_some held.engine.search)

-- whether an infinite search runs
abbrev pub IsInfinite : Option Held → ℕ → (infinite infinite' : Bool) → Option Held → Type 0
IsInfinite None code infinite infinite' new = (code ≡ empty_slot) × (new ≡ None) × (infinite' ≡ infinite)
IsInfinite (Some held) code infinite infinite' new = (code ≡ ok) × (new ≡ Some held) × (infinite' ≡ is_infinite held.engine.search)

-- whether an infinite search has done all that it has to do
abbrev pub IsWaiting : Option Held → ℕ → (waiting waiting' : Bool) → Option Held → Type 0
IsWaiting None code waiting waiting' new = (code ≡ empty_slot) × (new ≡ None) × (waiting' ≡ waiting)
IsWaiting (Some held) code waiting waiting' new = (code ≡ ok) × (new ≡ Some held) × (waiting' ≡ is_waiting held.engine.search)

-- whether `quit` came
abbrev pub IsEnded : Option Held → ℕ → (ended ended' : Bool) → Option Held → Type 0
IsEnded None code ended ended' new = (code ≡ empty_slot) × (new ≡ None) × (ended' ≡ ended)
IsEnded (Some held) code ended ended' new = (code ≡ ok) × (new ≡ Some held) × (ended' ≡ held.engine.ended)

-- the milliseconds that the clock leaves, with the status of none where it ends no search
abbrev pub IsLeft : Option ℕ → (code left left' : ℕ) → Type 0
IsLeft None code left left' = (code ≡ none_best) × (left' ≡ left)
IsLeft (Some time) code left left' = (code ≡ ok) × (left' ≡ time)

-- after how much time the clock ends the search
abbrev pub IsTimed : Option Held → (code left left' : ℕ) → Option Held → Type 0
IsTimed None code left left' new = (code ≡ empty_slot) × (new ≡ None) × (left' ≡ left)
IsTimed (Some held) code left left' new = IsLeft (time_left held.engine) code left left' × (new ≡ Some held)
