use Rattle.std.proofs.Common.{◌≡◌, false, sym, ap, ◌∙◌, arith}
use Rattle.std.proofs.lemmas.Int.{ints}
use Rattle.chess_types.specs.board.Attack.{in_check}
use Rattle.chess_types.specs.board.Position.{man_on}
use Rattle.chess_types.specs.board.Lines.{last}
use Rattle.chess_search.specs.Value.{evaluation_for}
use Rattle.chess_search.proofs.WindowLemmas.{decided, value-unchecked}
use Rattle.chess_search.proofs.search.leaf_answer.Goals as goal

pub returns-in-Some-clause-answer : goal.returns-in-Some-clause-answer
returns-in-Some-clause-answer g c =
    let line = c.args.line.now.line in
    let quiet : in_check (man_on (last line)) (last line).side ≡ false = sym c.in_check-checked.ensures ∙ c.if-not-checked.true in
    let same : evaluation_for c.live.result.now.position ≡ evaluation_for (last line) = ap evaluation_for c.live.ensures.position in
    decided c.args.alpha c.args.beta (evaluation_for (last line)) _ _ _ _ c.in-Some.answer (omega (arith, ints)) (omega (arith, ints)) (omega (arith, ints, c.evaluation_for.ensures.value, same)) (omega (arith, ints)) c.in-Some.ensures _
    (value-unchecked c.args.claims line c.args.distance quiet)
