use Rattle.chess_types.specs.board.Board.{man_at}
use Rattle.chess_types.proofs.KeptLemmas.{gathers_king}
use Rattle.chess_types.proofs.board.placement.Placement.king.Goals as goal

pub returns : goal.returns
returns c =
    let are = rw c.self.view_is at c.self.invariant.1 in
    rw c.intersection.ensures (gathers_king c.self.inside.kept.kings c.of.result (man_at c.args.self.now) c.args.colour are.kings c.of.ensures)
