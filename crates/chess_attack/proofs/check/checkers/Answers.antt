use Rattle.std.proofs.Common.{ap, ◌∙◌, arith}
use Rattle.chess_types.specs.board.Board.{Men, man_at}
use Rattle.chess_types.specs.board.Attack.{attacks_for}
use Rattle.chess_attack.proofs.Kings.{checks_at}
use Rattle.chess_attack.proofs.check.checkers.Goals as goal

pub returns : goal.returns
returns c = λ a ha.
    let man_on : Men = man_at c.args.placement.now in
    c.attackers.ensures a ha
    ∙ ap (λ colour. attacks_for (man_on a) colour man_on a c.king_square-king.result) c.opponent.ensures
    ∙ checks_at c.args.placement.now c.args.colour c.king_square-king.result a c.requires (omega arith) c.king_square-king.ensures
