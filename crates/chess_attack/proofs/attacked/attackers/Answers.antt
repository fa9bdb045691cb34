use Rattle.std.proofs.Common.{◌||◌, ◌∙◌, arith}
use Rattle.std.specs.FinSet.{contains-union}
use Rattle.std.proofs.lemmas.Cmp.{nat_cmp_total}
use Rattle.chess_types.specs.board.Board.{man_at}
use Rattle.chess_attack.proofs.AttackSets.{attackers_are}
use Rattle.chess_attack.proofs.attacked.attackers.Goals as goal

pub returns : goal.returns
returns c = λ a ha.
    rw c.union.ensures
    (contains-union nat_cmp_total c.leapers.result c.sliders_around.result a
    ∙ (λ i. c.leapers.ensures a ha i || c.sliders_around.ensures a ha i)
    ∙ attackers_are (man_at c.args.placement.now) c.args.colour c.args.square a ha (omega arith))
