use Rattle.std.proofs.Common.{◌≡◌, length}
use Rattle.byte_streams.specs.Words.{words}
use Rattle.chess_uci.specs.Commands.{gaps}
use Rattle.chess_uci.proofs.PlaceLemmas.{PlayedTo}
use Rattle.chess_uci.proofs.placing.play.Given as goal

abbrev pub invariant-loop-word : goal.invariant-loop-word
invariant-loop-word g l = record {
  looked : l.line.looked ≡ 0;
  played : PlayedTo l.fn.line.line l.line.line (words gaps l.moves) (words gaps l.rest);
}

abbrev pub decreases-loop-word : goal.decreases-loop-word
decreases-loop-word g l = length (words gaps l.rest)
