use Rattle.chess_types.proofs.BitLemmas.{no_bits, highest-set_of}
use Rattle.chess_types.proofs.board.square_set.SquareSet.highest.Goals as goal

pub returns-in-None-clause-none : goal.returns-in-None-clause-none
returns-in-None-clause-none c = no_bits c.self.view_is c.in-None.ensures.none

pub returns-in-Some-clause-found : goal.returns-in-Some-clause-found
returns-in-Some-clause-found c =
    let top = c.in-Some.ensures in
    rw (← c.self.view_is, c.from_index.ensures) (highest-set_of c.self.inside.bits c.in-Some.last top.bound top.power_le top.next_power_gt)
