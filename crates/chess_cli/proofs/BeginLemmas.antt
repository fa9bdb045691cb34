-- The counters of the position in which a game begins.
use Rattle.std.proofs.Common.{◌≤◌, arith}
use Rattle.chess_types.specs.board.Position.{start}

pub start_clock : start.clock ≤ 99999
unfolding start
start_clock = omega arith

pub start_number : start.number ≤ 99999
unfolding start
start_number = omega arith
