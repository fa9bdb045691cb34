use Rattle.std.proofs.Common.{◌||◌, ◌∙◌}
use Rattle.std.specs.FinSet.{contains-union}
use Rattle.std.proofs.lemmas.Cmp.{nat_cmp_total}
use Rattle.chess_attack.proofs.attacked.sliders_along.Goals as goal

pub returns : goal.returns
returns c = λ a ha.
    rw c.union.ensures
    (contains-union nat_cmp_total c.slider_on-up.result c.slider_on.result a
    ∙ (λ i. c.slider_on-up.ensures a ha i || c.slider_on.ensures a ha i))
