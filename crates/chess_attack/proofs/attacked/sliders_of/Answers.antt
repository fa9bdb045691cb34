use Rattle.chess_types.specs.board.Board.{man_at}
use Rattle.chess_attack.proofs.AttackSets.{sliders_are}
use Rattle.chess_attack.proofs.attacked.sliders_of.Goals as goal

pub returns : goal.returns
returns c =
    rw c.intersection.ensures
    (sliders_are (man_at c.args.placement.now) c.args.axis c.args.colour c.sliders.result c.of.result c.sliders.ensures c.of.ensures)
