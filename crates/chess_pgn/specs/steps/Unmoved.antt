-- The tree of a reader that has read no move yet.
--   unmoved        no move and no comment, and the cursor at the root
--   parts_so_far   so it is before an analysis has begun; afterwards it is the analysis's
use Rattle.std.specs.Prelude.{[], Option, Some, None}
use Rattle.std.specs.declared.boxed.Box.{Box}
use Rattle.chess_types.specs.board.Position.{PositionParts}
use Rattle.chess_tree.specs.Forest.{Bare}
use Rattle.chess_tree.specs.GameTree.{TreeParts}

abbrev pub unmoved : PositionParts → TreeParts
unmoved start = record { tree = record { start = start; comment = []; below = Bare }; path = [] }

abbrev pub parts_so_far : {Z : Type 0} → PositionParts → Option (Box TreeParts Z) → TreeParts
parts_so_far start None = unmoved start
parts_so_far start (Some analysis) = analysis.value
