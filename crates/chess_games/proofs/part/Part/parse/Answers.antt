use Rattle.std.proofs.Common.{sym, subst, arith}
use Rattle.chess_games.specs.Parts.{IsNumber}
use Rattle.chess_games.proofs.part.Part.parse.Goals as goal

-- the text before the slash is no number
pub returns-in_default-positive-clause-none : goal.returns-in_default-positive-clause-none
returns-in_default-positive-clause-none c _ part spelled =
    let parts = c.in-Some.ensures.byte (omega arith) (λ _ _ found. found) in
    c.in_default-positive.ensures part.first (subst (λ t. IsNumber t part.first) (sym parts.0) spelled.first)

-- the text after it is none
pub returns-in_default-positive-2-clause-none : goal.returns-in_default-positive-2-clause-none
returns-in_default-positive-2-clause-none c _ part spelled =
    let parts = c.in-Some.ensures.byte (omega arith) (λ _ _ found. found) in
    c.in_default-positive-2.ensures part.step (subst (λ t. IsNumber t part.step) (sym parts.1) spelled.step)
