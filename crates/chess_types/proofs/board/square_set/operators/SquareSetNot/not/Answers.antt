use Rattle.chess_types.proofs.SetShapes.{set_of-not}
use Rattle.chess_types.proofs.board.square_set.operators.SquareSetNot.not.Goals as goal

pub returns : goal.returns
returns c = λ s. rw (← c.self.view_is) (set_of-not c.self.inside.bits s c.self.invariant)
