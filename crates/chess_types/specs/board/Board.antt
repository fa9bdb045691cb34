-- A board: a finite map from squares to men (FIDE Laws, article 2.1; PGN 16.1.3.1).
--   Board    the map
--   Men      what stands on each square; the definitions of the Laws read a board by this alone
--   man_at   the men of a board
use Rattle.std.specs.Prelude.{ℕ, Option}
use Rattle.std.specs.Ordering.{nat_cmp}
use Rattle.std.specs.FinMap.{FinMap, get}
use Rattle.chess_types.specs.declared.board.man.Man.{Man}

-- the men on their squares
abbrev pub Board : Type 0
Board = FinMap nat_cmp Man

-- what is on each square, read as a function
abbrev pub Men : Type 0
Men = ℕ → Option Man

-- what is on each square of a board
abbrev pub man_at : Board → Men
man_at board square = get board square
