use Rattle.std.proofs.Common.{◌≡◌, ◌+◌, ◌-◌, ◌*◌, ◌++◌, ◌≤◌, length, map}
use Rattle.chess_types.specs.board.Position.{PositionParts}
use Rattle.chess_draws.specs.steps.LookBack.{IsBehind, IsTrack, came_back}
use Rattle.chess_draws.specs.steps.Plies.{move_of}
use Rattle.chess_draws.proofs.look_back.look_back.Given as goal

abbrev pub invariant-loop-back : goal.invariant-loop-back
invariant-loop-back l = record {
  low : l.total ≤ l.behind.known + 2 * l.back;
  high : l.behind.known ≤ l.total;
  at_least : l.count ≤ l.back;
  behind : (start : PositionParts) → IsTrack start (l.plies ++ l.looked) l.here (length (l.plies ++ l.looked) - l.clock) →
      IsBehind start (l.plies ++ l.looked) l.here l.behind (l.total - 2 * l.back);
  count : (start : PositionParts) → IsTrack start (l.plies ++ l.looked) l.here (length (l.plies ++ l.looked) - l.clock) →
      l.count ≡ came_back start (map move_of (l.plies ++ l.looked)) l.back;
}
