use Rattle.std.proofs.Common.{◌∙◌}
use Rattle.chess_types.proofs.SetShapes.{same_words, same_each_square}
use Rattle.chess_types.proofs.board.square_set.operators.SquareSetPartialEq.eq.Goals as goal

pub returns : goal.returns
returns c =
    let words = same_words c.self.inside.bits c.other.inside.bits c.self.invariant c.other.invariant in
    rw (← c.self.view_is, ← c.other.view_is) (record { value = words; each = words ∙ same_each_square c.self.inside.bits c.other.inside.bits })
