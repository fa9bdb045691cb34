use Rattle.std.proofs.Common.{◌&&◌, ap, ◌∙◌}
use Rattle.std.specs.FinSet.{contains-intersection}
use Rattle.std.proofs.lemmas.Cmp.{nat_cmp_total}
use Rattle.std.proofs.lemmas.Bool.{lt-ltb}
use Rattle.chess_types.specs.board.Board.{man_at}
use Rattle.chess_attack.specs.steps.Marks.{reaches}
use Rattle.chess_attack.specs.steps.Through.{is_slider}
use Rattle.chess_attack.proofs.attacked.slider_on.Goals as goal

pub returns : goal.returns
returns c = λ a ha.
    rw c.intersection.ensures
    (contains-intersection nat_cmp_total c.reach.result c.sliders_of-men.result a
    ∙ (λ i. c.reach.ensures a i && c.sliders_of-men.ensures a i)
    ∙ ap (λ b. (b && reaches (man_at c.args.placement.now) c.args.axis c.args.way c.args.at a) && is_slider (man_at c.args.placement.now a) c.args.axis c.args.colour)
    (lt-ltb a 64 ha))
