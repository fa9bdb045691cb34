use Rattle.std.proofs.Common.{◌∙◌, ap, Some, arith}
use Rattle.std.proofs.lemmas.Int.{ints}
use Rattle.chess_search.proofs.WindowLemmas.{ended-check, ended-stalemate}
use Rattle.chess_search.proofs.search.end_value.Goals as goal

pub returns-clause-value : goal.returns-clause-value
returns-clause-value g c =
    λ claims.
    ended-check claims c.args.line.now.line c.args.distance c.requires.none (rw (← c.in_check.ensures) c.if-not-in_check.false)
    ∙ ap Some (omega (arith, ints, c.from.ensures, c.requires.distance))

pub returns-then-not-in_check-clause-value : goal.returns-then-not-in_check-clause-value
returns-then-not-in_check-clause-value g c = λ claims. ended-stalemate claims c.args.line.now.line c.args.distance c.requires.none (rw (← c.in_check.ensures) c.if-not-in_check.true)
