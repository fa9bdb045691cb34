use Rattle.std.proofs.Common.{ap, ◌∙◌, arith}
use Rattle.chess_types.specs.board.Board.{man_at}
use Rattle.chess_types.specs.board.Attack.{is_attacked}
use Rattle.chess_attack.proofs.Kings.{checked_at}
use Rattle.chess_attack.proofs.check.in_check_by.Goals as goal

pub returns : goal.returns
returns c =
    c.is_attacked.ensures c.args.placement.now c.requires.agrees ∙ ap (λ colour. is_attacked (man_at c.args.placement.now) colour c.king_square-king.result) c.opponent.ensures
    ∙ checked_at c.args.placement.now c.args.colour c.king_square-king.result c.requires.king (omega arith) c.king_square-king.ensures
