use Rattle.std.proofs.Common.{ap, ◌∙◌}
use Rattle.std.specs.Prelude.{filter}
use Rattle.std.specs.FinSet as set
use Rattle.chess_types.specs.board.Squares.{squares}
use Rattle.chess_types.proofs.BitLemmas.{squares_of-contains, below-set_of}
use Rattle.chess_types.proofs.board.square_set.SquareSet.iter.Goals as goal

pub returns-clause-value : goal.returns-clause-value
returns-clause-value c = squares_of-contains c.self.inside.bits ∙ ap (λ s. filter (set.contains s) squares) c.self.view_is

pub returns-clause-below : goal.returns-clause-below
returns-clause-below c = rw (← c.self.view_is) (below-set_of c.self.inside.bits)
