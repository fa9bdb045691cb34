use Rattle.std.proofs.Common.{◌≡◌, take, length}
use Rattle.chess_types.specs.steps.KeptSets.{SetsAreKept}
use Rattle.chess_types.proofs.KeptLemmas.{so_far}
use Rattle.chess_types.proofs.board.placement.gather.Given as goal

abbrev pub invariant-loop-number : goal.invariant-loop-number
invariant-loop-number l = record {
  same : take l.number l.contents ≡ take l.number l.cells;
  len : length l.contents ≡ 64;
  kept : SetsAreKept l.kept (so_far l.cells l.number);
}
