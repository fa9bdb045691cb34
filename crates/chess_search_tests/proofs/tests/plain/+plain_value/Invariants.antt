use Rattle.std.proofs.Common.{◌+◌, ◌*◌}
use Rattle.chess_draws.specs.LineParts.{IsAsBefore}
use Rattle.chess_search.specs.Scores.{IsValue}
use Rattle.chess_search_tests.proofs.tests.plain.+plain_value.Given as goal

abbrev pub decreases-plain_value : goal.decreases-plain_value
decreases-plain_value g l = 2 * l.depth

abbrev pub decreases-plain_worth : goal.decreases-plain_worth
decreases-plain_worth g l = 2 * l.depth + 1

abbrev pub invariant-plain_value-loop-m : goal.invariant-plain_value-loop-m
invariant-plain_value-loop-m g l =
    record {
      line : IsAsBefore l.fn.line l.line;
      in_range : IsValue l.best;
    }
