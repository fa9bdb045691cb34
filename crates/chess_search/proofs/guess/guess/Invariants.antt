use Rattle.std.proofs.Common.{◌<◌, length}
use Rattle.chess_draws.specs.LineParts.{IsAsBefore}
use Rattle.chess_search.proofs.guess.guess.Given as goal

abbrev pub invariant-loop-place : goal.invariant-loop-place
invariant-loop-place g l = record { line : IsAsBefore l.fn.line l.line; inside : l.best.0 < length l.fn.roots }
