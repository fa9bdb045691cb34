use Rattle.std.proofs.Common.{◌≡◌, false, Some, sym, ◌∙◌, arith}
use Rattle.std.proofs.lemmas.Grind.{common_steps}
use Rattle.chess_fen.specs.Ranks.{rank_cells, cells_of, has_adjacent_digits}
use Rattle.chess_fen.proofs.RankLemmas.{stopped, went_on, finished}
use Rattle.chess_fen.proofs.ranks.read_rank.Goals as goal

pub returns-then-has_adjacent_digits : goal.returns-then-has_adjacent_digits
unfolding rank_cells
returns-then-has_adjacent_digits c = grind (arith, common_steps)

pub returns-in_err-push_cells : goal.returns-in_err-push_cells
returns-in_err-push_cells c =
    let apart : has_adjacent_digits c.args.text.now ≡ false = sym c.has_adjacent_digits.ensures ∙ c.if-has_adjacent_digits.false in
    c.from_residual.ensures ∙ stopped c.args.text.now c.loop-rest.rest.now c.loop-rest.cells.items c.in-len1-up.len_at_least c.loop-rest.invariant apart c.in_err-push_cells.ensures

pub loop-rest-preserved : goal.loop-rest-preserved
loop-rest-preserved c =
    let on = went_on c.args.text.now c.loop-rest.rest.now c.loop-rest.cells.items c.in-len1-up.len_at_least c.loop-rest.invariant c.push_cells.new.cells.items c.in_ok-push_cells.ensures in
    grind (arith, common_steps, on)

pub returns : goal.returns
unfolding cells_of
returns c =
    let apart : has_adjacent_digits c.args.text.now ≡ false = sym c.has_adjacent_digits.ensures ∙ c.if-has_adjacent_digits.false in
    let all : Some c.loop-rest.cells.items ≡ cells_of c.args.text.now = grind (arith, common_steps) in
    let end = finished c.args.text.now c.loop-rest.cells.items apart all in
    grind (arith, common_steps, end)
