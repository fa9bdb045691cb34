use Rattle.std.proofs.Common.{ap, ◌∙◌}
use Rattle.std.specs.FinSet as set
use Rattle.std.specs.Prelude.{count_by}
use Rattle.std.specs.FinSet.{contains}
use Rattle.chess_types.specs.board.Squares.{squares}
use Rattle.chess_types.specs.board.Bits.{set_of}
use Rattle.chess_types.proofs.BitLemmas.{ones-set_of, len_where, on_the_board}
use Rattle.chess_types.proofs.board.square_set.SquareSet.len.Goals as goal

pub returns-clause-value : goal.returns-clause-value
returns-clause-value c = ones-set_of c.self.inside.bits c.self.invariant ∙ ap set.len c.self.view_is

pub returns-clause-counted : goal.returns-clause-counted
returns-clause-counted c =
    ones-set_of c.self.inside.bits c.self.invariant
    ∙ len_where (set_of c.self.inside.bits) (contains (set_of c.self.inside.bits)) (on_the_board c.self.inside.bits)
    ∙ ap (λ s. count_by (contains s) squares) c.self.view_is
