use Rattle.chess_types.specs.board.Board.{man_at}
use Rattle.chess_draws.proofs.DeadLemmas.{others_listed}
use Rattle.chess_draws.proofs.dead.others.Goals as goal

pub returns : goal.returns
returns c =
    others_listed c.occupied.result c.king.result c.king-2.result c.union-kings.result c.difference.result (man_at c.args.men.now)
    c.occupied.ensures c.king.ensures c.king-2.ensures c.union-kings.ensures c.difference.ensures
