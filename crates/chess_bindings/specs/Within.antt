-- Searches that may be abandoned.
--   says_within      what a watch over a number of positions and a flag says: the flag is looked at at the first position and at each 1,024th after it
--   IsRepliedWithin  of a slice of an engine: it was made, and the replies to it are written, or it was abandoned, and all is as before
use Rattle.std.specs.Prelude.{◌≡◌, ◌≤◌, ℕ, ◌%◌, ◌==◌, min, nat_lt, Bool, true, false, ◌&&◌, if◌then◌else◌, List, [], Option, Some, None}
use Rattle.chess_uci.specs.declared.event.Event.TheVariants.{Slice}
use Rattle.chess_uci.specs.declared.reply.Reply.{Reply}
use Rattle.chess_uci.specs.Events.{Follows}
use Rattle.chess_uci.specs.Machine.{State}
use Rattle.chess_uci.specs.Within.{IsWatched, slice_size}
use Rattle.chess_cli.specs.TimedSessions.{reply_lines}
use Rattle.chess_bindings.specs.Handed.{IsHanded}

-- yes beyond `nodes` positions; either where a flag is looked at, if there is one; else no
abbrev pub says_within : (nodes : ℕ) → (flagged : Bool) → ℕ → Option Bool
says_within nodes flagged n = if nat_lt nodes n then Some true else if flagged && n % 1024 == 1 then None else Some false

-- the replies to a slice that was made; none, and the engine as before, where it was abandoned
abbrev pub RepliesIf : Bool → (old new : State) → List Reply → Type 0
RepliesIf true old new replies = Follows old Slice replies new
RepliesIf false old new replies = (replies ≡ []) × (new ≡ old)

-- of a slice for which `nodes` positions were asked for
pub record IsRepliedWithin (says : ℕ → Option Bool) (old new : State) (nodes : ℕ) (made : Bool) (code count' : ℕ) (room room' : List ℕ) : Type 0 where
  pub watched : IsWatched says nodes made
  pub at_least : min 1 (slice_size old) ≤ nodes
  pub at_most : nodes ≤ slice_size old
  pub replied : (replies : List Reply) × RepliesIf made old new replies × IsHanded (reply_lines replies) code count' room room'
