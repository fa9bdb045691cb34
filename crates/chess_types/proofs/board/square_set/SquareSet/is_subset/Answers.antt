use Rattle.std.proofs.Common.{◌∙◌}
use Rattle.chess_types.proofs.SetShapes.{subset_words, subset_squares}
use Rattle.chess_types.proofs.board.square_set.SquareSet.is_subset.Goals as goal

pub returns : goal.returns
returns c =
    let words = subset_words c.self.inside.bits c.other.inside.bits c.self.invariant c.other.invariant in
    rw (← c.self.view_is, ← c.other.view_is) (record { value = words; each = words ∙ subset_squares c.self.inside.bits c.other.inside.bits })
