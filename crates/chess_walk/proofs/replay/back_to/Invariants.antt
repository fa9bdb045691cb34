use Rattle.std.proofs.Common.{◌≡◌, length, take}
use Rattle.chess_walk.proofs.replay.back_to.Given as goal

abbrev pub invariant-loop-line : goal.invariant-loop-line
invariant-loop-line g l = record {
  start : l.line.line.start ≡ l.fn.line.line.start;
  moves : take l.fn.plies l.line.line.moves ≡ take l.fn.plies l.fn.line.line.moves;
  still : l.line.looked ≡ 0;
  room : l.line.room ≡ l.fn.line.room;
}

abbrev pub decreases-loop-line : goal.decreases-loop-line
decreases-loop-line g l = length l.line.line.moves
