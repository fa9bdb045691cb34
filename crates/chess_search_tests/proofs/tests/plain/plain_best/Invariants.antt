use Rattle.chess_draws.specs.LineParts.{IsAsBefore}
use Rattle.chess_search_tests.proofs.tests.plain.plain_best.Given as goal

abbrev pub invariant-loop-m : goal.invariant-loop-m
invariant-loop-m g l =
    record {
      line : IsAsBefore l.fn.line l.line;
    }
