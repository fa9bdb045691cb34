use Rattle.std.proofs.Common.{◌≡◌, ◌∙◌, arith}
use Rattle.std.proofs.lemmas.Grind.{common_steps}
use Rattle.chess_types.specs.declared.board.man.Colour.TheVariants.{White, Black}
use Rattle.chess_types.specs.board.Board.{man_at}
use Rattle.chess_types.specs.board.Men.{is_of, men_of}
use Rattle.chess_types.proofs.FaultLemmas.{count_gathered}
use Rattle.chess_types.proofs.board.faults.has_at_most_16_each.Goals as goal

pub returns-then-len-le-MOST_MEN : goal.returns-then-len-le-MOST_MEN
returns-then-len-le-MOST_MEN c = λ board are.
    let white : c.len.result ≡ men_of board White =
    c.len.ensures.counted ∙ count_gathered board (is_of White) c.men.result (c.men.ensures (man_at board) are) in
    let black : c.len-then-len-le-MOST_MEN.result ≡ men_of board Black =
    c.len-then-len-le-MOST_MEN.ensures.counted
    ∙ count_gathered board (is_of Black) c.men-then-len-le-MOST_MEN.result (c.men-then-len-le-MOST_MEN.ensures (man_at board) are) in
    grind (arith, common_steps, white, black)

pub returns-else-len-le-MOST_MEN : goal.returns-else-len-le-MOST_MEN
returns-else-len-le-MOST_MEN c = λ board are.
    let white : c.len.result ≡ men_of board White =
    c.len.ensures.counted ∙ count_gathered board (is_of White) c.men.result (c.men.ensures (man_at board) are) in
    grind (arith, common_steps, white)
