use Rattle.std.proofs.Common.{sym, ap, ◌∙◌, nat_eq}
use Rattle.std.specs.FinSet.{len}
use Rattle.chess_types.specs.board.Board.{man_at}
use Rattle.chess_attack.proofs.AttackSets.{free_half}
use Rattle.chess_attack.proofs.attacked.is_free.Goals as goal

pub returns : goal.returns
returns c = λ none.
    free_half (man_at c.args.placement.now) c.args.axis c.args.way c.args.at c.args.colour c.half.result c.sliders_of-men.result
    c.half.ensures c.sliders_of-men.ensures (ap (λ s. nat_eq (len s) 0) (sym c.intersection.ensures) ∙ sym c.is_empty.ensures ∙ none)
