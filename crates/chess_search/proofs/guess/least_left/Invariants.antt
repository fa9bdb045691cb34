use Rattle.chess_draws.specs.LineParts.{IsAsBefore}
use Rattle.chess_search.proofs.guess.least_left.Given as goal

abbrev pub invariant-loop-m : goal.invariant-loop-m
invariant-loop-m g l = IsAsBefore l.fn.line l.line
