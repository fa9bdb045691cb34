use Rattle.std.proofs.Common.{not, ◌&&◌, ap, ◌∙◌}
use Rattle.std.specs.FinSet.{contains}
use Rattle.chess_moves.proofs.PawnShifts.{less_and}
use Rattle.chess_moves.proofs.pawns.single_steps.Goals as goal

pub returns : goal.returns
returns c = λ b hb.
    rw (c.intersection.ensures, c.difference.ensures)
    (less_and c.forward-ahead.result c.args.occupied c.args.mask b
    ∙ ap (λ x. x && (not (contains c.args.occupied b) && contains c.args.mask b)) (c.forward-ahead.ensures b hb))
