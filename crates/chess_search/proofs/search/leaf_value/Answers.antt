use Rattle.std.proofs.Common.{◌∙◌, sym, pos, arith}
use Rattle.std.proofs.lemmas.Int.{ints}
use Rattle.chess_search.proofs.WindowLemmas.{ended-drawn, value-ended, value-leaf, none_left, drawn_at, evaluated_at, moves_left}
use Rattle.chess_search.proofs.search.leaf_value.Goals as goal

pub end_value-requires-clause-none : goal.end_value-requires-clause-none
end_value-requires-clause-none g c = none_left _ _ _ c.has_legal.ensures.as_before.line c.has_legal.ensures.value c.if-not-has_legal.true

pub returns-then-is_drawn-clause-value : goal.returns-then-is_drawn-clause-value
returns-then-is_drawn-clause-value g c =
    let some = moves_left _ (sym c.has_legal.ensures.value ∙ c.if-not-has_legal.false) in
    sym (value-ended c.args.claims 0 c.args.line.now.line c.args.distance (pos 0) (ended-drawn c.args.claims c.args.line.now.line c.args.distance some (drawn_at c.args.claims _ _ _ _ c.has_legal.ensures.as_before.line c.is_drawn.ensures.value c.if-is_drawn.true)))

pub returns-else-is_drawn-clause-value : goal.returns-else-is_drawn-clause-value
returns-else-is_drawn-clause-value g c =
    let some = moves_left _ (sym c.has_legal.ensures.value ∙ c.if-not-has_legal.false) in
    let playing = drawn_at c.args.claims _ _ _ _ c.has_legal.ensures.as_before.line c.is_drawn.ensures.value c.if-is_drawn.false in
    let leaf = value-leaf c.args.claims c.args.line.now.line c.args.distance some playing in
    let evaluated = evaluated_at _ _ _ _ c.live.ensures.position c.is_drawn.ensures.as_before.line c.has_legal.ensures.as_before.line in
    omega (arith, ints, c.evaluation_for.ensures.value, leaf, evaluated)
