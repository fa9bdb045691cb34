-- What the statuses of calls are, as numbers, and how small values are seen.
--   ok, empty_slot, no_memory, not_legal, argument, no_room, none_best, no_such, wants_more, no_game, was_abandoned, bad_name, own_tag, bad_value   statuses of their own
--   fault_code      the status of a text at whose start no game is
--   outcome_code    a game's status, as a number
use Rattle.std.specs.Prelude.{ℕ, ◌+◌}
use Rattle.chess_types.specs.declared.board.outcome.Status.{Status}
use Rattle.chess_types.specs.declared.board.outcome.Status.TheVariants.{Mate, Stalemate, Dead, Fivefold, Seventyfive, Play}
use Rattle.chess_items.specs.declared.fault.FaultKind.{FaultKind}
use Rattle.chess_items.specs.declared.fault.FaultKind.TheVariants.{Memory}
use Rattle.chess_items.specs.Faults.{fault_number}

-- it is done
abbrev pub ok : ℕ
ok = 0

-- there is nothing in the slot
abbrev pub empty_slot : ℕ
empty_slot = 1

-- there is no memory
abbrev pub no_memory : ℕ
no_memory = 2

-- the move isn't legal, or the text names no legal move
abbrev pub not_legal : ℕ
not_legal = 3

-- a number is out of its range
abbrev pub argument : ℕ
argument = 9

-- the answer is longer than the room for it
abbrev pub no_room : ℕ
no_room = 10

-- there is no legal move, so none is best
abbrev pub none_best : ℕ
none_best = 11

-- there is nothing of that name, or at that place
abbrev pub no_such : ℕ
no_such = 12

-- more bytes decide what is there
abbrev pub wants_more : ℕ
wants_more = 14

-- only whitespace follows
abbrev pub no_game : ℕ
no_game = 16

-- the search was abandoned
abbrev pub was_abandoned : ℕ
was_abandoned = 17

-- no tag has that name
abbrev pub bad_name : ℕ
bad_name = 18

-- the tag says what the game itself has
abbrev pub own_tag : ℕ
own_tag = 19

-- the value goes on in another line
abbrev pub bad_value : ℕ
bad_value = 20

-- 40 and the number of the fault; want of memory is no fault of the text
abbrev pub fault_code : FaultKind → ℕ
fault_code Memory = no_memory
fault_code fault = 40 + fault_number fault

-- the number of a status
abbrev pub outcome_code : Status → ℕ
outcome_code Mate = 0
outcome_code Stalemate = 1
outcome_code Dead = 2
outcome_code Fivefold = 3
outcome_code Seventyfive = 4
outcome_code Play = 5
