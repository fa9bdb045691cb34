-- What a board's session of the engine replies, which takes memory at its first event.
--   IsRepliedFrom         to an event; or there was no memory for the session, which was at its start, and all is as before
--   IsRepliedWithinFrom   to a slice that may be abandoned; or the same
use Rattle.std.specs.Prelude.{◌≡◌, ◌⊎◌, ℕ, Bool, List, Option}
use Rattle.chess_uci.specs.declared.event.Event.{Event}
use Rattle.chess_uci.specs.Machine.{State, beginning}
use Rattle.chess_bindings.specs.Answers.{IsReplied}
use Rattle.chess_bindings.specs.Codes.{no_memory}
use Rattle.chess_bindings.specs.Within.{IsRepliedWithin}

-- no memory for a session at its start, which is as before
abbrev pub IsUnmade : (old new : State) → (code : ℕ) → Type 0
IsUnmade old new code = (code ≡ no_memory) × (old ≡ beginning) × (new ≡ old)

-- an event
abbrev pub IsRepliedFrom : Event → (old new : State) → (code count count' : ℕ) → (room room' : List ℕ) → Type 0
IsRepliedFrom event old new code count count' room room' = IsReplied event old new code count' room room' ⊎ (IsUnmade old new code × (count' ≡ count) × (room' ≡ room))

-- a slice that may be abandoned
abbrev pub IsRepliedWithinFrom : (says : ℕ → Option Bool) → (old new : State) → (nodes nodes' : ℕ) → (made made' : Bool) → (code count count' : ℕ) → (room room' : List ℕ) → Type 0
IsRepliedWithinFrom says old new nodes nodes' made made' code count count' room room' =
    IsRepliedWithin says old new nodes' made' code count' room room'
    ⊎ (IsUnmade old new code × (nodes' ≡ nodes) × (made' ≡ made) × (count' ≡ count) × (room' ≡ room))
