use Rattle.std.proofs.Common.{refl}
use Rattle.chess_types.proofs.StartLemmas.{start_few, start_length}
use Rattle.chess_types.proofs.board.placement.Placement.start.Goals as goal

pub invariant_of-result : goal.invariant_of-result
invariant_of-result c = rw c.start_contents.ensures (start_few, c.start.ensures, start_length)

pub returns : goal.returns
returns c = rw c.start_contents.ensures refl
