-- What is still to be written of a game's moves, and what it asks.
--   shortened   the line without its last move
--   tasks_text  what the tasks write, one after another, from the last position of a line
--   AreTasks    the moves of each task are legal, and the line with them has at most 20,000 plies
--   work        how much is still to be done
use Rattle.std.specs.Prelude.{◌≡◌, ℕ, ◌+◌, ◌*◌, ◌≤◌, Bool, true, false, List, [], ◌∷◌, ◌++◌, length, codes, ⊤}
use Rattle.chess_types.specs.board.MoveParts.{MoveParts}
use Rattle.chess_types.specs.board.After.{after}
use Rattle.chess_types.specs.board.Legal.{is_legal}
use Rattle.chess_types.specs.board.Lines.{Line, last}
use Rattle.chess_draws.specs.Pushes.{most_plies}
use Rattle.chess_tree.specs.Forest.{Forest, height, moves_held}
use Rattle.chess_tree.specs.WellFormed.{AreSound}
use Rattle.chess_pgn.specs.Written.{moves_text}

-- what is still to be written
pub data Todo : Type 0 where
  -- nodes side by side, as a line, whose first number is due or not
  Moves : Forest → Bool → Todo
  -- the same, as variations
  Variations : Forest → Todo
  -- the nodes below a move, which is still to be made
  Below : MoveParts → Forest → Bool → Todo
  -- the end of a variation
  Close : Todo
  -- a move taken back
  Back : Todo

-- all moves but the last
abbrev pub without_last : List MoveParts → List MoveParts
without_last [] = []
without_last (m ∷ []) = []
without_last (m ∷ n ∷ moves) = m ∷ without_last (n ∷ moves)

abbrev pub shortened : Line → Line
shortened line = record { start = line.start; moves = without_last line.moves }

abbrev pub tasks_text : Line → List Todo → List ℕ
tasks_text line [] = []
tasks_text line (Moves nodes due ∷ tasks) = moves_text false due (last line) nodes ++ tasks_text line tasks
tasks_text line (Variations nodes ∷ tasks) = moves_text true true (last line) nodes ++ tasks_text line tasks
tasks_text line (Below m nodes due ∷ tasks) = moves_text false due (after (last line) m) nodes ++ tasks_text line tasks
tasks_text line (Close ∷ tasks) = codes ")" ++ tasks_text line tasks
tasks_text line (Back ∷ tasks) = tasks_text (shortened line) tasks

-- each can be done where the ones before it lead
abbrev pub AreTasks : Line → List Todo → Type 0
AreTasks line [] = ⊤
AreTasks line (Moves nodes due ∷ tasks) = AreSound (last line) nodes × (length line.moves + height nodes ≤ most_plies) × AreTasks line tasks
AreTasks line (Variations nodes ∷ tasks) = AreSound (last line) nodes × (length line.moves + height nodes ≤ most_plies) × AreTasks line tasks
AreTasks line (Below m nodes due ∷ tasks) =
    (is_legal (last line) m ≡ true) × AreSound (after (last line) m) nodes × (length line.moves + 1 + height nodes ≤ most_plies) × AreTasks line tasks
AreTasks line (Close ∷ tasks) = AreTasks line tasks
AreTasks line (Back ∷ tasks) = AreTasks (shortened line) tasks

abbrev pub work : List Todo → ℕ
work [] = 0
work (Moves nodes due ∷ tasks) = 1 + 4 * moves_held nodes + work tasks
work (Variations nodes ∷ tasks) = 1 + 4 * moves_held nodes + work tasks
work (Below m nodes due ∷ tasks) = 3 + 4 * moves_held nodes + work tasks
work (Close ∷ tasks) = 1 + work tasks
work (Back ∷ tasks) = 1 + work tasks
