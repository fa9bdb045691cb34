use Rattle.std.proofs.Common.{ap, ◌∙◌, nat_eq}
use Rattle.std.specs.FinSet as set
use Rattle.chess_types.proofs.BitLemmas.{none-set_of}
use Rattle.chess_types.proofs.board.square_set.SquareSet.is_empty.Goals as goal

pub returns : goal.returns
returns c = none-set_of c.self.inside.bits c.self.invariant ∙ ap (λ s. nat_eq (set.len s) 0) c.self.view_is
