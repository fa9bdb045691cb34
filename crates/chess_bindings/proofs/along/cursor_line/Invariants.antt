use Rattle.std.proofs.Common.{◌≡◌, ◌≤◌, length}
use Rattle.chess_bindings.proofs.AlongLemmas.{Along}
use Rattle.chess_bindings.proofs.along.cursor_line.Given as goal

-- the way so far
abbrev pub invariant-loop-ply : goal.invariant-loop-ply
invariant-loop-ply g l = record {
  along : Along l.fn.tree l.line.line l.node.below l.ply;
  still : l.line.looked ≡ 0;
  room : length l.fn.tree.path ≤ l.line.room;
}
