-- What a call adds to a text that is laid in lines, whatever it was before.
use Rattle.std.specs.Prelude.{ℕ, List, ◌++◌}
use Rattle.chess_pgn.specs.steps.Laying.{Lays}
use Rattle.chess_pgn.specs.declared.lines.Lines.{Lines}

-- the text so far, after another
abbrev pub HoldsText : {A : Type 0} → List ℕ → Lines A → List ℕ → Type 0
HoldsText before lines text = Lays before lines.text.items lines.space lines.column text

-- the lines have that text more
abbrev pub Adds : {A : Type 0} → Lines A → Lines A → List ℕ → Type 0
Adds old new part = (before text : List ℕ) → HoldsText before old text → HoldsText before new (text ++ part)
