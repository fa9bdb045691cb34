use Rattle.std.proofs.Common.{◌≡◌, take, length}
use Rattle.chess_types.proofs.board.placement.cells_of.Given as goal

abbrev pub invariant-loop-number : goal.invariant-loop-number
invariant-loop-number l = record {
  same : take l.number l.cells ≡ take l.number l.contents;
  len : length l.cells ≡ 64;
}
