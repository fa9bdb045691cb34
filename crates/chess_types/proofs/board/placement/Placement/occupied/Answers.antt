use Rattle.chess_types.specs.board.Board.{man_at}
use Rattle.chess_types.proofs.KeptLemmas.{gathers_men}
use Rattle.chess_types.proofs.board.placement.Placement.occupied.Goals as goal

pub returns : goal.returns
returns c =
    let kept = c.self.inside.kept in
    let are = rw c.self.view_is at c.self.invariant.1 in
    rw c.union.ensures (gathers_men kept.white kept.black (man_at c.args.self.now) are.white are.black)
