use Rattle.std.proofs.Common.{◌*◌}
use Rattle.chess_types.specs.board.Board.{man_at}
use Rattle.chess_attack.specs.KeptCounts.{Worked}
use Rattle.chess_attack.proofs.FirstSquares.{AreCountsBelow}
use Rattle.chess_attack.proofs.counts.Counts.of.Given as goal

abbrev pub invariant-loop-number : goal.invariant-loop-number
invariant-loop-number l = record {
  below : AreCountsBelow l.tally (man_at l.placement) l.number;
  worked : Worked l.initial.tally l.tally (l.number * 27);
}
