-- What a session does at an event.
--   event_of      the event of the code as the machine's
--   StepsStarved  a line that asks for memory may be one for which it is refused
--   Does          the replies and the new state are those of a step
--   Follows       they are those of the event, or of the line for which memory is refused
use Rattle.std.specs.Prelude.{◌≡◌, ◌⊎◌, List}
use Rattle.chess_uci.specs.declared.reply.Reply.{Reply}
use Rattle.chess_uci.specs.declared.event.Event.{Event as EventCode}
use Rattle.chess_uci.specs.declared.event.Event.TheVariants.{Line as LineCode, Slice as SliceCode, Moment as MomentCode}
use Rattle.chess_uci.specs.Commands.{command_in}
use Rattle.chess_uci.specs.Machine.{State, Step, Event, Line, Slice, Moment, Starved, AsksForMemory, step}

-- the event that the code passes
abbrev pub event_of : EventCode → Event
event_of (LineCode line) = Line line.now
event_of SliceCode = Slice
event_of (MomentCode moment) = Moment moment

-- these replies, and this state afterwards
abbrev pub Does : Step → List Reply → State → Type 0
Does t replies new = (replies ≡ t.0) × (new ≡ t.1)

-- the step of a line for which a growth was refused: only of one that asks for memory
abbrev pub StepsStarved : State → EventCode → List Reply → State → Type 0
StepsStarved old (LineCode line) replies new = AsksForMemory (command_in line.now) × Does (step old (Starved line.now)) replies new
StepsStarved old _ replies new = ⊥

-- what an event leads to: its step, or that of a refused growth
abbrev pub Follows : State → EventCode → List Reply → State → Type 0
Follows old event replies new = Does (step old (event_of event)) replies new ⊎ StepsStarved old event replies new
