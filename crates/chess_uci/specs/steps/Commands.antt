-- The code's commands as those of the definitions.
use Rattle.std.specs.Prelude.{Option, option_map}
use Rattle.byte_streams.specs.Words.{words}
use Rattle.chess_uci.specs.declared.command.Command.{Command as Code}
use Rattle.chess_uci.specs.declared.command.Command.TheVariants.{Idle as IdleCode, Uci as UciCode, IsReady as IsReadyCode, NewGame as NewGameCode, Position as PositionCode, Go as GoCode, Stop as StopCode, Quit as QuitCode, SetOption as SetOptionCode}
use Rattle.chess_uci.specs.Commands.{Command, Idle, Uci, IsReady, NewGame, Position, Go, Stop, Quit, SetOption, gaps}

-- the command that the code passes
abbrev pub command_of : Code → Command
command_of IdleCode = Idle
command_of UciCode = Uci
command_of IsReadyCode = IsReady
command_of NewGameCode = NewGame
command_of (PositionCode rest) = Position (words gaps rest.now)
command_of (GoCode rest) = Go (words gaps rest.now)
command_of StopCode = Stop
command_of QuitCode = Quit
command_of (SetOptionCode rest) = SetOption (words gaps rest.now)

-- the command that the code passes, if there is one
abbrev pub named_of : Option Code → Option Command
named_of code = option_map command_of code
