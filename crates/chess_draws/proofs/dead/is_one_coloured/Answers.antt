use Rattle.std.proofs.Common.{◌&&◌, ◌||◌, ◌∙◌, arith}
use Rattle.std.proofs.lemmas.Bool.Decides.{nat_tests}
use Rattle.chess_types.specs.board.Board.{man_at}
use Rattle.chess_draws.proofs.DeadLemmas.{one_coloured_is}
use Rattle.chess_draws.proofs.dead.is_one_coloured.Goals as goal

pub returns : goal.returns
returns c =
    (λ i. c.is_subset-are_bishops.ensures.each i && (c.is_subset-are_light.ensures.each i || c.is_subset-are_dark.ensures.each i))
    ∙ one_coloured_is c.others-others.result c.bishops.result c.light.result c.dark.result (man_at c.args.men.now) c.others-others.ensures c.bishops.ensures
    (λ s on. c.light.ensures s ∙ grind (arith, nat_tests, on)) (λ s on. c.dark.ensures s ∙ grind (arith, nat_tests, on))
