use Rattle.std.proofs.Common.{sym, ap, ◌∙◌, nat_eq}
use Rattle.std.specs.FinSet.{len}
use Rattle.chess_types.specs.board.Board.{man_at}
use Rattle.chess_attack.proofs.XRays.{seen_no_set}
use Rattle.chess_attack.proofs.x_rays.is_quiet.Goals as goal

pub returns : goal.returns
returns c = λ quiet.
    seen_no_set (man_at c.args.placement.now) c.args.axis c.args.way c.args.at c.half.result c.sliders.result c.half.ensures c.sliders.ensures
    (ap (λ s. nat_eq (len s) 0) (sym c.intersection.ensures) ∙ sym c.is_empty.ensures ∙ quiet)
