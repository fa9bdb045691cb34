use Rattle.std.proofs.Common.{◌≡◌}
use Rattle.chess_types.specs.board.Board.{man_at}
use Rattle.chess_key.proofs.KeyLaws.{key_below}
use Rattle.chess_key.proofs.keys.Key.of.Given as goal

abbrev pub invariant-loop-square : goal.invariant-loop-square
invariant-loop-square l = l.number ≡ key_below l.table (man_at l.placement) l.square
