use Rattle.std.proofs.Common.{◌≡◌}
use Rattle.chess_guide.proofs.tasks.game.Given as goal

-- no move is only looked at
abbrev pub invariant-loop-text : goal.invariant-loop-text
invariant-loop-text l = l.line.looked ≡ 0
