-- The tasks of the code, the next one last.
use Rattle.std.specs.Prelude.{◌≡◌, ℕ, ◌+◌, ◌≤◌, List, [], ◌∷◌, ◌++◌, map, reverse}
use Rattle.chess_types.specs.board.Lines.{Line}
use Rattle.chess_pgn.specs.steps.Adding.{Adds}
use Rattle.chess_pgn.specs.steps.Tasks as tasks
use Rattle.chess_pgn.specs.steps.Tasks.{Todo, tasks_text, AreTasks, work}
use Rattle.chess_pgn.specs.declared.lines.Lines.{Lines}
use Rattle.chess_pgn.specs.declared.movetext.Task.{Task}
use Rattle.chess_pgn.specs.declared.movetext.Task.TheVariants.{Moves, Variations, Below, Close, Back}

-- what a task of the writer is to do
abbrev pub todo : {A : Type 0} → Task A → Todo
todo (Moves nodes due) = tasks.Moves nodes due
todo (Variations nodes) = tasks.Variations nodes
todo (Below m node nodes due) = tasks.Below m nodes due
todo Close = tasks.Close
todo Back = tasks.Back

-- what all are to do, the next first
abbrev pub todos : {A : Type 0} → List (Task A) → List Todo
todos items = map todo (reverse items)

-- the tasks after a move that is made: it is taken back first, where there are any
abbrev pub returning : {A : Type 0} → List (Task A) → List Todo
returning [] = []
returning (t ∷ ts) = tasks.Back ∷ todos (t ∷ ts)

-- Some of the tasks' text is written, the others write the rest, and at least `least` less is to be done.
pub record Writes {A : Type 0} (least : ℕ) (old new : Lines A) (line line' : Line) (ts ts' : List Todo) : Type 0 where
  pub more : List ℕ
  pub adds : Adds old new more
  pub text : tasks_text line ts ≡ more ++ tasks_text line' ts'
  pub tasks : AreTasks line' ts'
  pub smaller : work ts' + least ≤ work ts

-- one step
abbrev pub WritesSome : {A : Type 0} → Lines A → Lines A → Line → Line → List Todo → List Todo → Type 0
WritesSome old new line line' ts ts' = Writes 1 old new line line' ts ts'

-- the steps so far
abbrev pub Done : {A : Type 0} → Lines A → Lines A → Line → Line → List Todo → List Todo → Type 0
Done old new line line' ts ts' = Writes 0 old new line line' ts ts'
