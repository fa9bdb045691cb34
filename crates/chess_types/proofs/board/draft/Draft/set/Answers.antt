use Rattle.std.proofs.Common.{arith}
use Rattle.chess_types.proofs.FaultLemmas.{board_of-with_cell}
use Rattle.chess_types.proofs.board.draft.Draft.set.Goals as goal

pub returns : goal.returns
returns c =
    rw (← c.self.view_is, c.index.ensures.value)
    (let men = board_of-with_cell c.self.inside.men c.args.at c.args.cell (omega arith) in
    λ i. record {
      placement = men i;
      side = c.self.inside.side;
      rights = c.self.inside.rights;
      target = c.self.inside.target;
      clock = c.self.inside.clock;
      number = c.self.inside.number;
    })
