use Rattle.std.proofs.Common.{◌&&◌, ap, ◌∙◌}
use Rattle.std.specs.FinSet.{contains}
use Rattle.chess_moves.proofs.PawnShifts.{both_and, captures_inside}
use Rattle.chess_moves.proofs.pawns.captures.Goals as goal

pub returns : goal.returns
returns c = λ b hb.
    rw (c.intersection-2.ensures, c.intersection.ensures)
    (both_and c.forward-there.result c.args.capturable c.args.mask b
    ∙ ap (λ x. x && (contains c.args.capturable b && contains c.args.mask b))
    (captures_inside c.args.side c.args.by c.args.edge c.args.pawns c.file.result c.difference-inner.result c.forward-there.result b hb c.file.ensures c.difference-inner.ensures c.forward-there.ensures))
