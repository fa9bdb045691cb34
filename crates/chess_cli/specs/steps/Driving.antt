-- A line on its way through a session.
--   Happened     an event has happened, and its replies are on the page
--   with_clock   a session with another clock
use Rattle.std.specs.Prelude.{◌≡◌, ℕ, List, ◌++◌}
use Rattle.chess_uci.specs.declared.reply.Reply.{Reply}
use Rattle.chess_uci.specs.declared.event.Event.{Event}
use Rattle.chess_uci.specs.Machine.{State}
use Rattle.chess_uci.specs.Events.{Follows}
use Rattle.chess_cli.specs.TimedSessions.{reply_lines}
use Rattle.chess_cli.specs.declared.uci_command.timed_session.TimedSession.{TimedSession}

-- an event has been replied on the page
abbrev pub Happened : State → Event → State → List ℕ → List ℕ → Type 0
Happened s event t page page1 = (replies : List Reply) × Follows s event replies t × (page1 ≡ page ++ reply_lines replies)

-- the same session, by the owner's clock
abbrev pub with_clock : {A C D : Type 0} → D → TimedSession A C → TimedSession A D
with_clock clock s = record { session = s.session; clock = clock }
