use Rattle.std.proofs.Common.{◌||◌, ltb, ap, ◌∙◌}
use Rattle.std.specs.FinSet.{contains, contains-union}
use Rattle.std.proofs.lemmas.Cmp.{nat_cmp_total}
use Rattle.chess_types.specs.board.Board.{man_at}
use Rattle.chess_attack.specs.declared.way.Way.TheVariants.{Up, Down}
use Rattle.chess_attack.specs.steps.PinHalves.{shaded_on}
use Rattle.chess_attack.proofs.Reached.{and_or}
use Rattle.chess_attack.proofs.pin.shade_along.Goals as goal

pub returns : goal.returns
returns c = λ s.
    ap (λ x. contains x s) c.union.ensures
    ∙ contains-union nat_cmp_total c.shade_on-up.result c.shade_on-down.result s
    ∙ (λ i. c.shade_on-up.ensures s i || c.shade_on-down.ensures s i)
    ∙ and_or (ltb s 64) (shaded_on (man_at c.args.placement.now) c.args.colour c.args.king s c.args.axis Up)
    (shaded_on (man_at c.args.placement.now) c.args.colour c.args.king s c.args.axis Down)
