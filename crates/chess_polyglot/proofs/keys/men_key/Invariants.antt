use Rattle.std.proofs.Common.{◌≡◌}
use Rattle.chess_types.specs.board.Board.{man_at}
use Rattle.chess_polyglot.proofs.Xors.{men_below}
use Rattle.chess_polyglot.proofs.keys.men_key.Given as goal

abbrev pub invariant-loop-square : goal.invariant-loop-square
invariant-loop-square l = l.key ≡ men_below (man_at l.placement) l.square
