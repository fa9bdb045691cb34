-- The main line of a game, and its plies. Ply n has n moves made: ply 0 is the start, and the last ply has them all.
--   main            the line of a game's main continuations
--   as_far          the line as far as a ply
--   least           the least of the numbers 0, 1, .. below a bound that has a property
--   greatest_below  the greatest value at the numbers below a bound, or 0
--   first           the first ply with a property
--   most            the greatest value of all plies
use Rattle.std.specs.Prelude.{ℕ, zero, suc, max, Bool, if◌then◌else◌, length, take, Option, Some, None}
use Rattle.chess_types.specs.board.Lines.{Line}
use Rattle.chess_tree.specs.GameTree.{GameTree, line_along, main_line}

-- the moves that come first at each node (PGN 8.2.5)
abbrev pub main : GameTree → Line
main tree = line_along (main_line tree.below) tree

-- the moves after it left out
abbrev pub as_far : ℕ → Line → Line
as_far n line = record { start = line.start; moves = take n line.moves }

-- what was found, else the number where it has the property
abbrev pub else_here : Option ℕ → Bool → ℕ → Option ℕ
else_here (Some found) has n = Some found
else_here None has n = if has then Some n else None

-- the least number below n that passes the test
abbrev pub least : (ℕ → Bool) → ℕ → Option ℕ
least has zero = None
least has (suc n) = else_here (least has n) (has n) n

-- the greatest value of the numbers below n, 0 of none
abbrev pub greatest_below : (ℕ → ℕ) → ℕ → ℕ
greatest_below value zero = 0
greatest_below value (suc n) = max (greatest_below value n) (value n)

-- of the plies 0 to the last
abbrev pub first : (Line → Bool) → Line → Option ℕ
first has line = least (λ n. has (as_far n line)) (suc (length line.moves))

-- the greatest value of the line after any of its plies
abbrev pub most : (Line → ℕ) → Line → ℕ
most value line = greatest_below (λ n. value (as_far n line)) (suc (length line.moves))
