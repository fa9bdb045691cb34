use Rattle.std.proofs.Common.{sym, ◌∙◌}
use Rattle.chess_types.specs.board.Board.{man_at}
use Rattle.chess_attack.proofs.XRays.{first_sees, seen_bare}
use Rattle.chess_attack.proofs.attacked.sees_slider.Goals as goal

pub returns-in-Some : goal.returns-in-Some
returns-in-Some c =
    c.contains.ensures ∙ c.sliders_of-men.ensures c.in-Some.near
    ∙ sym (first_sees (man_at c.args.placement.now) c.args.axis c.args.way c.args.at c.in-Some.near c.args.colour c.in-Some.ensures.found)

pub returns-in-None : goal.returns-in-None
returns-in-None c = sym (seen_bare (man_at c.args.placement.now) c.args.axis c.args.way c.args.at c.args.colour c.in-None.ensures.none)
