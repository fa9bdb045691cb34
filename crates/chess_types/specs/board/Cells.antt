-- The board that a list of cells stands for: the first cell is a1, the next b1, the last h8.
use Rattle.std.specs.Prelude.{ℕ, ◌+◌, List, [], ◌∷◌, Option, Some, None}
use Rattle.std.specs.FinMap.{empty, insert}
use Rattle.chess_types.specs.declared.board.man.Man.{Man}
use Rattle.chess_types.specs.board.Board.{Board}

-- the men of the cells, the first of which is the square `from`
abbrev pub men_from : ℕ → List (Option Man) → Board
men_from from [] = empty
men_from from (None ∷ cells) = men_from (from + 1) cells
men_from from (Some man ∷ cells) = insert (men_from (from + 1) cells) from man

-- the board of 64 cells, from a1 to h8
abbrev pub board_of : List (Option Man) → Board
board_of cells = men_from 0 cells
