use Rattle.std.proofs.Common.{◌≡◌, ◌≤◌, length, take}
use Rattle.chess_queries.proofs.copy.copy_line.Given as goal

-- the moves so far
abbrev pub invariant-loop-ply : goal.invariant-loop-ply
invariant-loop-ply g l = record {
  line : l.copy.line ≡ record { start = l.line.line.start; moves = take l.ply l.line.line.moves };
  still : l.copy.looked ≡ 0;
  room : length l.line.line.moves ≤ l.copy.room;
}
