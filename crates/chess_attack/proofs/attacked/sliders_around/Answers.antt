use Rattle.std.proofs.Common.{◌||◌, ◌∙◌, ap}
use Rattle.std.specs.FinSet.{contains, union, contains-union}
use Rattle.std.proofs.lemmas.Cmp.{nat_cmp_total}
use Rattle.chess_attack.proofs.attacked.sliders_around.Goals as goal

pub returns : goal.returns
returns c = λ a ha.
    rw (c.union-3.ensures, c.union-2.ensures, c.union.ensures)
    (contains-union nat_cmp_total (union (union c.sliders_along-ranks.result c.sliders_along-files.result) c.sliders_along-rising.result) c.sliders_along-falling.result a
    ∙ ap (λ b. b || contains c.sliders_along-falling.result a)
    (contains-union nat_cmp_total (union c.sliders_along-ranks.result c.sliders_along-files.result) c.sliders_along-rising.result a
    ∙ ap (λ b. b || contains c.sliders_along-rising.result a) (contains-union nat_cmp_total c.sliders_along-ranks.result c.sliders_along-files.result a))
    ∙ (λ i. ((c.sliders_along-ranks.ensures a ha i || c.sliders_along-files.ensures a ha i) || c.sliders_along-rising.ensures a ha i) || c.sliders_along-falling.ensures a ha i))
