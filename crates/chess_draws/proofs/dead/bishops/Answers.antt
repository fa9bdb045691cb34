use Rattle.chess_types.specs.board.Board.{man_at}
use Rattle.chess_draws.proofs.DeadLemmas.{bishops_gathered}
use Rattle.chess_draws.proofs.dead.bishops.Goals as goal

pub returns : goal.returns
returns c =
    bishops_gathered c.diagonal.result c.straight.result c.difference.result (man_at c.args.men.now) c.diagonal.ensures c.straight.ensures c.difference.ensures
