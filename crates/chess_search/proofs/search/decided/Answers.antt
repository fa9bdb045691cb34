use Rattle.std.proofs.Common.{arith}
use Rattle.std.proofs.lemmas.Int.{ints, clamps}
use Rattle.chess_search.proofs.BorderLemmas.{decided_low, decided_high}
use Rattle.chess_search.proofs.search.decided.Goals as goal

pub returns-then-least-beta : goal.returns-then-least-beta
returns-then-least-beta c =
    decided_low c.args.alpha c.args.beta c.args.evaluation _ c.requires.in_range c.requires.border (omega (arith, ints, clamps)) (omega (arith, ints)) (omega (arith, ints))

pub returns-then-most-alpha : goal.returns-then-most-alpha
returns-then-most-alpha c =
    decided_high c.args.alpha c.args.beta c.args.evaluation _ c.requires.in_range c.requires.border (omega (arith, ints, clamps)) (omega (arith, ints)) (omega (arith, ints))
