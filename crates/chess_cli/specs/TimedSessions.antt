-- What the lines of the input make of a session that asks a clock for the time.
--   reply_lines      replies, each on a line of its own
--   is_fed           a search runs that is given time before the next line is read
--   Readings         the clock gives these readings, one after another
--   events_of        the events that a line makes: a moment, the line, and a slice and a moment for each later reading
--   parts_of         what these events are replied, in parts: at the first moment and the line, and at each slice with the moment after it. Before a
--                    slice, all that comes before it is written
--   AnsweredSoFar    the line has made such events up to now, by the clock's readings, each slice while a search was to be fed
--   Answered         a line of the input may be answered by these parts, where `quit` has not come
--   AnsweredInPart   the same of a line of which answering was broken off, since a call of the sink failed
use Rattle.std.specs.Prelude.{◌≡◌, ℕ, ◌<◌, ◌≤◌, nat_le, Bool, true, false, ◌&&◌, ◌||◌, not, ◌⊎◌, ⊤, List, [], ◌∷◌, ◌++◌, length, Option, is_some, codes}
use Rattle.chess_uci.specs.declared.reply.Reply.{Reply}
use Rattle.chess_uci.specs.Replies.{reply_text}
use Rattle.chess_uci.specs.Commands.{command_in}
use Rattle.chess_uci.specs.Machine.{AsksForMemory, Event, Line, Starved, Slice, Moment, Search, State, beginning, is_infinite, is_waiting, depth_done}
use Rattle.chess_uci.specs.Laws.{replies, after_events}
use Rattle.chess_cli.specs.declared.uci_command.timed_session.TimedSession.{TimedSession}
use Rattle.chess_loop.specs.InputLines.{line_limit, line_room}

-- the texts of replies, each with a line feed
abbrev pub reply_lines : List Reply → List ℕ
reply_lines [] = []
reply_lines (reply ∷ others) = (reply_text reply ++ 10 ∷ []) ++ reply_lines others

-- a search is fed until it ends; an infinite one until it waits or depth 5 is complete
abbrev pub wants_slices : Option Search → Bool
wants_slices x = is_some x && not (is_infinite x && (is_waiting x || nat_le 5 (depth_done x)))

-- a search runs that wants slices
abbrev pub is_fed : State → Bool
is_fed s = not s.ended && wants_slices s.search

-- the clock is read once for each of these moments, in order
abbrev pub Readings : {C : Type 0} → (C → ℕ → C → Type 0) → C → List ℕ → C → Type 0
Readings reads c [] d = c ≡ d
Readings {C} reads c (moment ∷ moments) d = (mid : C) × reads c moment mid × Readings reads mid moments d

-- a slice, and the moment after it, for each moment
abbrev pub slices_of : List ℕ → List Event
slices_of [] = []
slices_of (moment ∷ moments) = Slice ∷ Moment moment ∷ slices_of moments

-- a line as events: the moment before it, the line, and slices until the search ends
abbrev pub events_of : ℕ → Event → List ℕ → List Event
events_of first event later = Moment first ∷ event ∷ slices_of later

-- what is replied to each slice and its moment
abbrev pub slice_parts : State → List ℕ → List (List ℕ)
slice_parts s [] = []
slice_parts s (moment ∷ moments) =
    reply_lines (replies s (Slice ∷ Moment moment ∷ [])) ∷ slice_parts (after_events s (Slice ∷ Moment moment ∷ [])) moments

-- what is replied to a line, and to each slice after it
abbrev pub parts_of : State → ℕ → Event → List ℕ → List (List ℕ)
parts_of s first event later =
    reply_lines (replies s (Moment first ∷ event ∷ [])) ∷ slice_parts (after_events s (Moment first ∷ event ∷ [])) later

-- a search was to be fed before each slice
abbrev pub WasFed : State → List ℕ → Type 0
WasFed s [] = ⊤
WasFed s (moment ∷ moments) = (is_fed s ≡ true) × WasFed (after_events s (Slice ∷ Moment moment ∷ [])) moments

-- the line, or, where it asks for memory, the line for which a growth is refused
abbrev pub IsLineEvent : List ℕ → Event → Type 0
IsLineEvent input event = (event ≡ Line input) ⊎ ((event ≡ Starved input) × AsksForMemory (command_in input))

-- a line and some slices after it have been replied
pub record AnsweredSoFar {C : Type 0} (reads : C → ℕ → C → Type 0) (s : State) (c : C) (input : List ℕ) (parts : List (List ℕ)) (t : State) (d : C) : Type 0 where
  pub first : ℕ
  pub event : Event
  pub later : List ℕ
  pub is_line : IsLineEvent input event
  pub clock : Readings reads c (first ∷ later) d
  pub replied : parts ≡ parts_of s first event later
  pub state : t ≡ after_events s (events_of first event later)
  pub each : WasFed (after_events s (Moment first ∷ event ∷ [])) later

-- the reply to a line over the limit
abbrev pub too_long_line : List ℕ
too_long_line = codes "info string line too long\n"

-- the reply for want of memory
abbrev pub no_memory_line : List ℕ
no_memory_line = codes "info string out of memory\n"

-- A line is replied whole, slices included, before `quit`. One that found no memory while it was read, for which there isn't always room, and one over
-- the limit are skipped.
abbrev pub Answered : {A C : Type 0} → (C → ℕ → C → Type 0) → TimedSession A C → List ℕ → List (List ℕ) → TimedSession A C → Type 0
Answered reads old input parts new =
    (old.session.ended ≡ false)
    × (((length input ≤ line_limit) × AnsweredSoFar reads old.session old.clock input parts new.session new.clock × (is_fed new.session ≡ false))
    ⊎ ((length input ≤ line_limit) × (line_room < length input) × (parts ≡ no_memory_line ∷ []) × (new ≡ old))
    ⊎ ((line_limit < length input) × (parts ≡ too_long_line ∷ []) × (new ≡ old)))

-- a line is replied up to some slice, where a write failed
abbrev pub AnsweredInPart : {A C : Type 0} → (C → ℕ → C → Type 0) → TimedSession A C → List ℕ → List (List ℕ) → TimedSession A C → Type 0
AnsweredInPart reads old input parts new =
    (old.session.ended ≡ false) × (length input ≤ line_limit) × AnsweredSoFar reads old.session old.clock input parts new.session new.clock

-- the session as it begins, with its clock
abbrev pub beginning_with : {A C : Type 0} → C → TimedSession A C
beginning_with clock = record { session = beginning; clock = clock }

-- `quit` came
abbrev pub has_ended : {A C : Type 0} → TimedSession A C → Bool
has_ended timed_session = timed_session.session.ended
