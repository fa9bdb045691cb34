-- How C sees statuses and small values: as numbers.
--   refusal_code    the status of a refusal of the board
--   ended_code      the status of a call that is done or refused
--   claims_code     the draws that may be claimed: 1 for threefold, and 2 for fifty
--   colour_code, colour_of_code  a colour: 0 for White, and 1 for Black; and read back
use Rattle.std.specs.Prelude.{ℕ, ◌+◌, ◌==◌, if◌then◌else◌, Option, Some, None, Result, Ok, Err}
use Rattle.chess_types.specs.declared.board.man.Colour.{Colour}
use Rattle.chess_types.specs.declared.board.man.Colour.TheVariants.{White, Black}
use Rattle.chess_types.specs.declared.board.outcome.Claims.{Claims}
use Rattle.chess_fen.specs.Faults.{fen_fault_number}
use Rattle.chess_cli.specs.declared.board_command.refusal.Refusal.{Refusal}
use Rattle.chess_cli.specs.declared.board_command.refusal.Refusal.TheVariants.{Fen, Form, NoSuch, Illegal, TooLong, AtRoot, Ambiguous, Full, BadComment, Memory, Command, Argument, LongLine}
use Rattle.chess_bindings.specs.Codes.{argument, no_memory, not_legal, ok}

-- FENs are refused from 21 on, by the number of the fault
abbrev pub refusal_code : Refusal → ℕ
refusal_code (Fen fault) = 20 + fen_fault_number fault
refusal_code Form = 5
refusal_code NoSuch = 12
refusal_code Illegal = not_legal
refusal_code TooLong = 6
refusal_code AtRoot = 8
refusal_code Ambiguous = 4
refusal_code Full = 7
refusal_code BadComment = 13
refusal_code Memory = no_memory
refusal_code Command = 14
refusal_code Argument = argument
refusal_code LongLine = 15

-- the status of a call that is done or refused
abbrev pub ended_code : Result (Unit {0}) Refusal → ℕ
ended_code (Ok _) = ok
ended_code (Err refusal) = refusal_code refusal

-- the draws that may be claimed, added up
abbrev pub claims_code : Claims → ℕ
claims_code claims = (if claims.threefold then 1 else 0) + (if claims.fifty then 2 else 0)

-- the number of a colour
abbrev pub colour_code : Colour → ℕ
colour_code White = 0
colour_code Black = 1

-- a colour by its number
abbrev pub colour_of_code : ℕ → Option Colour
colour_of_code code = if code == 0 then Some White else if code == 1 then Some Black else None
