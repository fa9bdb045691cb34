use Rattle.chess_types.specs.board.Position.{start}
use Rattle.chess_types.proofs.StartLemmas.{start_setup, start_quiet}
use Rattle.chess_types.proofs.board.position.Position.start.Goals as goal

pub invariant_of-new : goal.invariant_of-new
unfolding start
invariant_of-new c = rw c.start.ensures start_setup

pub new-requires : goal.new-requires
unfolding start
new-requires c = rw c.start.ensures start_quiet

pub returns : goal.returns
unfolding start
returns c = rw (c.new.ensures, c.start.ensures)
